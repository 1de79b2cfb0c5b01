-- Laws of `blocks_added`. For the crates above: `Grows` the summary of the new offsets, `Laws` document 02, 12, of a line that was added.
pub mod Raises
pub mod Ends
pub mod Grows
pub mod Kept
pub mod Laws
