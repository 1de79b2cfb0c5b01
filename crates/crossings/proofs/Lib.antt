-- Laws of `crossings`, for its own proofs and for the crates above.
pub mod RowLaws
pub mod Entry
