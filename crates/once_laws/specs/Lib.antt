-- The words of the laws of pairs that are handed out once.
pub mod Words
