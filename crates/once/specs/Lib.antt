-- The definitions that the contracts of `once` cite: `Once` the pairs whose boxes overlap, each once, `Inside` what private functions ask.
pub mod Once
pub mod Inside
