-- `Outcomes`: each promise settles its number, `out` and the lent slices.
pub mod Outcomes
