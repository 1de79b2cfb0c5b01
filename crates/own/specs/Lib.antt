-- The definitions that the contracts of `own` cite.
pub mod Own
pub mod Owner
pub mod Cases
pub mod Many
pub mod Inside
