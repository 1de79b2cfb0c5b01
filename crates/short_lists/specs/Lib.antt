-- The definitions that the contracts of `short_lists` cite.
pub mod Short
