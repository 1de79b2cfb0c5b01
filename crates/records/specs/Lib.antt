-- `Words`: words in bytes, and how far two rows of them are the same. `Files`: the records of a file, and how long they are.
-- `Questions`: what stands in the words of a question. `Answers`: words written as far as there is room.
pub mod Words
pub mod Files
pub mod Questions
pub mod Answers
