-- `Runs` is what the public promises cite; `Inside` is what the private functions promise.
pub mod Runs
pub mod Inside
