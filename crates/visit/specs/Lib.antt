-- `Overlap`, `Batches`, `Places` and `Entries` are what the public promises cite, with those of `seek`; `Words` has
-- the words of the laws of a full visit; `Inside` is what the private functions promise.
pub mod Overlap
pub mod Batches
pub mod Places
pub mod Entries
pub mod Words
pub mod Inside
