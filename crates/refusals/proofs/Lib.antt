-- Laws of checks, of answers and of what a refusal leaves, for the crates above.
pub mod Checks
pub mod Answers
pub mod Leaving
