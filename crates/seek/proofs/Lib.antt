-- Laws of `seek`. `Clauses` has each clause of a definition as an equation; the others are laws of its parts, for its own proofs and for the crates
-- above.
pub mod Clauses
pub mod OtherLines
pub mod CellRests
pub mod GlobalRests
pub mod Standing
pub mod Lengths
pub mod Passed
pub mod SeekTurns
pub mod FirstTests
pub mod Founds
pub mod FindLaws
pub mod PairLines
pub mod Outcomes
pub mod PlaceLaws
