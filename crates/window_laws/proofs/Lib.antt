-- `Windows` has the theorems. The others lead there: `Indexes` has that a fine coordinate lies in the cell of the index, `Spots` the cell of an exact point,
-- between the indexes of what is before and after it, `Sides` the way there from whole numbers, `Sizes` that the cell sizes of a build are values of the
-- format, `Ends` the cells of a line's ends, `Found` what a query finds of a cell of its block.
pub mod Windows
pub mod Indexes
pub mod Sides
pub mod Spots
pub mod Sizes
pub mod Ends
pub mod Found
