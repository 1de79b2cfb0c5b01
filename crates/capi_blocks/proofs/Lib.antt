-- The promise of `capi_blocks` settles what is left.
pub mod Outcomes
