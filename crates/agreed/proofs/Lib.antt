-- `Comparing`: laws of one record's words and those that are answered. `Tallying`: laws of the records one after another.
-- `Outcomes`: the promise settles the tally.
mod Comparing
mod Tallying
pub mod Outcomes
