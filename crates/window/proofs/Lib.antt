-- Laws of `window`. For the crates above: `Blocks` when a line is listed in the block, `Those` the lines that pass a test, `Entry` the answer case
-- by case.
pub mod Marking
pub mod Blocks
pub mod Corners
pub mod Those
pub mod Entry
