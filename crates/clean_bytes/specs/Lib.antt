-- `Printed`: what is written and printed for the bytes of an input, after document 02. `Inside`: what private functions ask and promise.
pub mod Printed
pub mod Inside
