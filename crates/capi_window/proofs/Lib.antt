-- The promise of `capi_window` settles what is left.
pub mod Outcomes
