-- `AsTheyAre`, `Cursors` and `Answers` are what the public promises cite; `Inside` is what the private functions promise.
pub mod AsTheyAre
pub mod Cursors
pub mod Answers
pub mod Inside
