-- The definitions that the contracts of `window` cite: `Window` what the public promise says, `Inside` what private functions promise.
pub mod Window
pub mod Inside
