-- The definitions that the contracts of `capi_places` cite.
pub mod Lent
