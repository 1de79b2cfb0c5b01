-- Laws of the rows of a short list: the room for them, and what their loops leave.
pub mod Tries
