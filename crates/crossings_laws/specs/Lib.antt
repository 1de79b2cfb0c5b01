-- The words of the laws of crossings.
pub mod Words
