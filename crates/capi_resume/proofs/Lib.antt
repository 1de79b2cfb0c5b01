-- `Outcomes` says that the promise of the function that goes on settles what is left; `Storing` has the stores of five values.
pub mod Storing
pub mod Outcomes
