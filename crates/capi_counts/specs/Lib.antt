-- `Answers`: the number and the values of each entry's answer. `Lent`: the promises of the exported functions, with the slices that they are lent.
pub mod Answers
pub mod Lent
