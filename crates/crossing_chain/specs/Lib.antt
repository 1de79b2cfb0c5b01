-- `Whole`: a float as a whole number. `Printed`: what the program of crossings prints for the bytes that it reads, after document 02. `Inside`: what
-- the private functions ask.
pub mod Whole
pub mod Printed
pub mod Inside
