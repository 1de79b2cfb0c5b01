-- `Neighbours` and `Segment` say what the public promises mean, in document 01's order, behind `Turns` and `Pushes` of the crate `turns`; `Inside` is what the
-- private functions promise to one another.
pub mod Neighbours
pub mod Segment
pub mod Inside
