-- `Replies`: how an answer is handed to a caller in another language. `Answers`: document 01's number and values of each entry's answer. `Inside` is
-- what the private functions promise.
pub mod Replies
pub mod Answers
pub mod Inside
