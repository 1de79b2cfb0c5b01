-- The definitions that the contracts of `cost` cite: `Cost` what a visit costs, `Inside` what the private functions ask and promise.
pub mod Cost
pub mod Inside
