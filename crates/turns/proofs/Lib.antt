-- For the crates above: `Entry`, which says what a trail's cells are, and `Few`, which says how many. `Whole`, `Tolerance` and `Plain` hold the code's way to the
-- definitions. `Floats`, `Grows`, `Loop` and `Pushed` are the steps of the functions' proofs.
pub mod Floats
pub mod Whole
pub mod Tolerance
pub mod Grows
pub mod Loop
pub mod Plain
pub mod Pushed
pub mod Few
pub mod Entry
