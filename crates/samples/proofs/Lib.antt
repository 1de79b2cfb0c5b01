-- Laws of `samples`, for its own proofs and for the crates above.
pub mod Raising
pub mod Checking
pub mod Wholes
pub mod Plane
pub mod Both
pub mod Vectors
