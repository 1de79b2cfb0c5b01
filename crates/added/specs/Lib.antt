-- The definitions that the contracts of `added` cite: `Added` what the public promises say, `Inside` what private functions ask and promise.
pub mod Added
pub mod Inside
