-- The words of the laws that join `next` to a batch.
pub mod Words
