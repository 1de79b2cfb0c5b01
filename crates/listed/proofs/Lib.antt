-- Laws of `listed`. `Outcomes` says that the promises of `next_cell` and of `cell_at` settle their answers; the others are laws of its parts.
pub mod BoxLaws
pub mod ByteLaws
pub mod ListLaws
pub mod AsIs
pub mod CellLaws
pub mod Outcomes
