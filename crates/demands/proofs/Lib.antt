-- DEMAND 3 of standing tables of any walk. `Listed` has what stands, `Refusals` that no visit of it is refused, `Often` how often two lines are
-- tested, `Count` how many tests there are, `Calls` what the calls of a full visit hand out, `Handed` how often that is two lines, `Whole` the
-- demand itself. `Grown` has the demand after a build, or one followed by added lines, `Build` the case of none, `Points` that in the covering mode nothing is
-- dropped, and `Seven` that a build in it is never refused by 7; these alone speak of a build, with the last law of `Once`, which has what
-- `once::pairs_once` hands out. `Table` has the measured points of document 01, as a single claim.
pub mod Listed
pub mod Refusals
pub mod Often
pub mod Count
pub mod Calls
pub mod Handed
pub mod Whole
pub mod Grown
pub mod Build
pub mod Points
pub mod Seven
pub mod Once
pub mod Table
