-- The definitions that the contracts of `capi_resume` cite: `Answers` the two answers in numbers, `Lent` the promise of the function that is lent
-- outputs beside `out`.
pub mod Answers
pub mod Lent
