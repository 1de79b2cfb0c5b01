-- The promises of `capi_pairs` settle what is left.
pub mod Outcomes
