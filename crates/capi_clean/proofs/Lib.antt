-- `Outcomes`: the promise settles the number, `out` and all slices.
pub mod Outcomes
