-- `Lent`: document 01's number and values of the answer, and the promise of the exported function with the slices that it is lent.
pub mod Lent
