-- The steps of the functions' proofs.
pub mod Reply
