-- What the exported walk answers, in numbers.
pub mod Replies
