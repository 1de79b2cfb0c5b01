-- Laws of `own`, for its own proofs and for the crates above.
pub mod Tests
pub mod Edges
pub mod Firsts
pub mod EndLaws
pub mod Owners
pub mod Halving
pub mod ThreeCases
pub mod SeamLaws
pub mod ManyLaws
pub mod ManyEnds
