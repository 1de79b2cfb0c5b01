-- The definitions that the contracts of `fill` cite: `OnGrid` the lists on a grid, `Checks` what is refused, `Fill` the entries, `Inside` what the
-- private functions ask and promise.
pub mod OnGrid
pub mod Checks
pub mod Fill
pub mod Inside
