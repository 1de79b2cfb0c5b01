-- The promise of `capi_blocks_added` settles what is left.
pub mod Outcomes
