-- The promise of `capi_added` settles what is left.
pub mod Outcomes
