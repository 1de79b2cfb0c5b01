-- The definitions that the contracts of `sizing` cite.
pub mod Bounds
pub mod Size
pub mod Counts
