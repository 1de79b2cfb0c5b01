-- The definitions that the contracts of `crossings` cite: `Crossings` what the public promise says, `Inside` what private functions ask.
pub mod Crossings
pub mod Inside
