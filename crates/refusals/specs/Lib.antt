-- The definitions by which every entry refuses, answers and leaves what it is lent.
pub mod Refusals
