-- The definitions that the contracts of `numbers` cite: a file for each function or family of functions.
pub mod Arithmetic
pub mod Order
pub mod Floor
pub mod Ceiling
pub mod Away
pub mod Root
pub mod Nearer
