-- `Fine`, `Rule` and `Covering` say what the public promise means; `Inside` is what the private functions promise to one another.
pub mod Fine
pub mod Rule
pub mod Covering
pub mod Inside
