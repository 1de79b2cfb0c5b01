-- `Held`: laws of points with member lengths. `Along`: of a way along member lengths. `Putting`: of the bytes that are written. `Writings`: the promises
-- from their parts. `RoundTrips`: reading what was written, and writing what was read. `Outcomes`: a promise settles the answer and all slices.
pub mod Held
pub mod Along
pub mod Putting
pub mod Writings
pub mod RoundTrips
pub mod Outcomes
