-- Laws of `through`. `Outcomes` says that the promise of a run settles its answer and both outputs; the others are laws of its parts.
pub mod BoxTurns
pub mod BriefTurns
pub mod ScanTurns
pub mod Goings
pub mod RowTurns
pub mod CellTurns
pub mod Bounds
pub mod RunLaws
pub mod Onward
pub mod Outcomes
