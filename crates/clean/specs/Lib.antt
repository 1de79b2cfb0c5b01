-- `Cleaning`: what is kept of chains and why a point is dropped, after document 02. `Calls`: what the call over lent slices answers and leaves.
-- `Inside`: what private functions ask and promise.
pub mod Cleaning
pub mod Calls
pub mod Inside
