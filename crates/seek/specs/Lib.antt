-- `Tests`, `Places`, `Bookmarks` and `Cursors` are what the public promises cite; `Inside` is what the private functions promise.
pub mod Tests
pub mod Places
pub mod Bookmarks
pub mod Cursors
pub mod Inside
