-- For the crates above: of `Runs` what they need. `Outcomes`: the promise of a function that answers and writes settles both.
-- `Chains` has the laws of entries in order and of parts that are lent; `Placing` and `Turning` each the state of one loop; `Sinking` heaps.
pub mod Chains
pub mod Placing
pub mod Turning
pub mod Sinking
pub mod Runs
pub mod Outcomes
