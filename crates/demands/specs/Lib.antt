-- `Words` has the words of demand 3: global lines, shared cells. `Calls` has a full visit as calls of `batch`, `Demand` the demand itself, of any
-- walk, `Build` the demand after a build, and `Grown` a build followed by added lines. `Points` says that no two lines that share a point are left out,
-- and `Once` that calls of `once::pairs_once` hand out each pair once. `Table` is that of the measured points, and what it claims.
pub mod Words
pub mod Calls
pub mod Demand
pub mod Build
pub mod Grown
pub mod Points
pub mod Once
pub mod Table
