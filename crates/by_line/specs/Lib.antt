-- The definitions that the contracts of `by_line` cite: `ByLine` the lists by line, `First` whether two lines met before, `Marks` the
-- marks of lines, `Inside` what the private functions ask and promise.
pub mod ByLine
pub mod First
pub mod Marks
pub mod Inside
