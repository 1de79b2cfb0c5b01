-- The promise of `capi_places` settles what is left.
pub mod Outcomes
