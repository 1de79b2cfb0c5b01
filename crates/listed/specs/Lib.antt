-- What the promises cite: `Lists` the lists of cells and the tests that are left, `Places` where the first of them stands, `Rooms` a room of boxes, `Bytes` an answer.
pub mod Lists
pub mod Places
pub mod Rooms
pub mod Bytes
