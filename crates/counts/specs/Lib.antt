-- The definitions that the contracts and laws of `counts` cite: `OnGrid` counting and tables on a given grid, `Adding` the sum of two count tables,
-- `Agreed` the grid of bounds and a number of lines, `Sharing` lines shared among benches.
pub mod OnGrid
pub mod Adding
pub mod Agreed
pub mod Sharing
