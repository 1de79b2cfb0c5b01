-- The definitions that the contracts of `capi_added` cite.
pub mod Lent
