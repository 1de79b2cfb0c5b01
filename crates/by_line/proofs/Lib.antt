-- Laws of lists by line, for its own proofs and for the crates above.
pub mod Turns
pub mod Room
pub mod Fronts
pub mod Common
pub mod Bits
pub mod Shared
