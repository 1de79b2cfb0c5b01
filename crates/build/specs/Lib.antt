-- The definitions that the contracts of `build` cite: `Choice` which grid, `Build` the entry, `Inside` what the private functions ask and promise.
pub mod Choice
pub mod Build
pub mod Inside
