-- The laws of `blocks` that crates above may cite.
pub mod Places
pub mod Telling
pub mod Rectangles
pub mod Entry
pub mod Owns
pub mod Laws
