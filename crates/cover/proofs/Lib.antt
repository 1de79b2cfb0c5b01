-- For the crates above: `Laws`; `Passing`, which says what lines pass the guard; and `Boxes`: the boxes of lines that share a point overlap.
pub mod Laws
pub mod Passing
pub mod Boxes
-- The rule on whole numbers: `Slope` and `Sides` have its parts, `Covers` that it covers, `Cells` and `Few` what its list is.
pub mod Slope
pub mod Sides
pub mod Covers
pub mod Cells
pub mod Few
-- From floats to the rule: `Offsets` has exact distances, `Fineness` the error of a fine coordinate, `ExactPoints` the points of one line, `Guarding` what the
-- guard gives, `Meeting` two lines, `WholePoints` the way there from a point that is shared over whole numbers.
pub mod Offsets
pub mod Fineness
pub mod ExactPoints
pub mod Guarding
pub mod Meeting
pub mod WholePoints
-- What the functions' proofs cite.
pub mod Growing
pub mod Climbing
pub mod Entry
-- Worked values.
pub mod Vectors
