-- Laws for the proofs of `build`. For the crates above: `Settled` and `Theorems`.
pub mod Choices
pub mod Settled
pub mod Theorems
