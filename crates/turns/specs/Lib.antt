-- `Turns`, `Pushes` and `Trails` say what the public promise means, in document 01's order; `InsideModular` and `Inside` are what the private functions promise to
-- one another.
pub mod Turns
pub mod Pushes
pub mod Trails
pub mod InsideModular
pub mod Inside
