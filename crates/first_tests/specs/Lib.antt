-- The definitions of the first tests: `Firsts` the first test of two lines and the pairs that a visit hands out at it, `InsideScan` what a scan asks and
-- promises, whatever decides which two lines are handed out, `InsideMarked` what one by marks asks.
pub mod Firsts
pub mod InsideScan
pub mod InsideMarked
