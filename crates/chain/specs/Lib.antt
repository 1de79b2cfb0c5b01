-- `Printed`: what the program prints for the bytes that it reads, after document 01. `Inside`: what the private functions ask and promise.
pub mod Printed
pub mod Inside
