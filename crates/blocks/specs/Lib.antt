-- The definitions that the contracts of `blocks` cite: `Blocks` the summary and what making it promises, `Query` the sum over a rectangle, `Inside`
-- what private functions ask and promise.
pub mod Blocks
pub mod Query
pub mod Inside
