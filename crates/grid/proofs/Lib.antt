-- Laws of `grid`, for its own proofs and for the crates above.
pub mod Bools
pub mod Fine
pub mod Shapes
pub mod Floats
pub mod Saying
pub mod Wholes
