-- Laws for the proofs of `fill`. For the crates above: `Theorems`, `Leaves`, and `above_never` in `Sums`.
pub mod Leaves
pub mod Visits
pub mod Sums
pub mod Walks
pub mod Lines
pub mod Counts
pub mod Places
pub mod Fills
pub mod Entries
pub mod Theorems
