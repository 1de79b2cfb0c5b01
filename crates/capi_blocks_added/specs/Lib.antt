-- The definitions that the contract of `capi_blocks_added` cites.
pub mod Lent
