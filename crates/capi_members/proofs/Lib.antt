-- `Outcomes`: the promises settle the number, `out` and every slice.
pub mod Outcomes
