-- `Few`: what is answered where the words are too few to say a grid. `Unknown`: the sizing and the mode of walk that a number names, and what is
-- answered where it names none. `Lent`: the promises of functions that are lent slices to write beside `out`.
pub mod Few
pub mod Unknown
pub mod Lent
