-- Laws for the proofs of `added`: `Asking` the checks, `Going` where the line goes, `Parts` of lists and the loops that move one, `Spreads` the loops over
-- the visited cells, `Laid` what these leave, `Promise` the promise of the entries from its parts. For the crates above: `Theorems`.
pub mod Asking
pub mod Going
pub mod Parts
pub mod Spreads
pub mod Laid
pub mod Promise
pub mod Theorems
