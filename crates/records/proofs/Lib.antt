-- `Bytes`: laws of words in bytes. `Rows`: laws of the records of a file. `Sameness`: how far two rows are the same.
-- `Parts`: laws of what stands in a question. `Reading`: laws of a question that is read in order. `Puts`: laws of words written as far as there is room.
mod Bytes
pub mod Rows
pub mod Sameness
pub mod Parts
pub mod Reading
pub mod Puts
