-- The definitions that the contracts of `capi_window` cite.
pub mod Lent
