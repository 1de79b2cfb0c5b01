-- `Putting`: the laws of `put_all`. `Digits`: those of decimal and hexadecimal digits. `Written`: what a buffer holds then.
-- `Outcomes`: a promise settles the buffer and the position after what was put there.
pub mod Putting
pub mod Digits
pub mod Written
pub mod Sizes
pub mod Values
pub mod Outcomes
