-- For the crates above: `Visits`, `Outcomes`, `Reaching`, which says which walk a mode is, `as_is` of `Checked` and `reach_is` of `Answer`. `Faithful` and `Modes` hold the
-- definitions to document 01, and `Off` the code's way to them. `Grows`, `Flat`, `Added`, `Spread`, `Room`, `Checked`, `Answer` and `Entry` are the steps of the
-- functions' proofs.
pub mod Grows
pub mod Flat
pub mod Added
pub mod Spread
pub mod Modes
pub mod Faithful
pub mod Room
pub mod Checked
pub mod Reaching
pub mod Answer
pub mod Off
pub mod Visits
pub mod Entry
pub mod Outcomes
