-- The definitions that the contracts of `capi_blocks` cite.
pub mod Lent
