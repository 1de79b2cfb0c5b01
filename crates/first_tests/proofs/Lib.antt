-- Laws of a visit that hands out each pair once, over a decision `chosen` on two line numbers. `Writes` has what tests leave in the outputs,
-- `Scans` one test and a row of them, `Lists` the pairs of a list and the cells, `Passing` both by marks, `Runs` the globals, `Whole` a full visit,
-- `MadeLists` the lists by line that it runs on, `Ends` its end.
pub mod Writes
pub mod Scans
pub mod Lists
pub mod Passing
pub mod Runs
pub mod Whole
pub mod MadeLists
pub mod Ends
