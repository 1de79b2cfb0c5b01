-- The definitions that the contracts of `grid` cite, and that every crate above rests on.
pub mod Domain
pub mod Boxes
pub mod Axes
pub mod Words
pub mod Points
