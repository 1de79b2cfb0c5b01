-- `Rooms`: laws of what is lent, and of what stands beside a question. `Lending`: the answer of each kind, from what its exported function is lent.
-- `Outcomes`: the promise settles the answer.
mod Rooms
mod Lending
pub mod Outcomes
