-- The definitions that the contracts of `capi_pairs` cite: `Answers` each entry's answer in numbers, `Lent` the promises of the functions that
-- are lent slices to write beside `out`.
pub mod Answers
pub mod Lent
