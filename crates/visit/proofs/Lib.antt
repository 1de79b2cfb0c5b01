-- Laws of `visit`. `Clauses` has each clause of a definition as an equation; `Outcomes` says that the promise of a batch settles its answer and
-- both outputs; the others are laws of its parts, for its own proofs and for the crates above.
-- THE LAWS of a full visit stand at the end. `Number` says how many tests it makes; `Often` how often it tests two lines, and hands them out; `Different`
-- that it tests no line with itself and none that there is not; `Where` what the number of a place says of a pair; `EndToEnd` that batches laid end to end
-- are one whole visit, and that the one test at a bookmark is the one that a batch makes there.
pub mod Clauses
pub mod BoxLaws
pub mod CellTurns
pub mod GlobalTurns
pub mod Moves
pub mod Placing
pub mod RowTurns
pub mod RunTurns
pub mod RunWhole
pub mod EntryLaws
pub mod Outcomes
pub mod Number
pub mod Often
pub mod Different
pub mod Where
pub mod EndToEnd
