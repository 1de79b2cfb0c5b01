-- The definitions that the contracts of `blocks_added` cite: `Beside` what the public promise says, `Inside` what private functions ask and promise.
pub mod Beside
pub mod Inside
