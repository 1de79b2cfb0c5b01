-- When a line comes into a window, and what it means that none of these is missed.
pub mod Entering
