-- Laws of `resume`. `Outcomes` says that the promise of `next` settles its answer and both outputs; the others are laws of its parts.
pub mod AsIs
pub mod Zeros
pub mod LineTurns
pub mod GlobalTurns
pub mod CursorLaws
pub mod Bounds
pub mod NextLaws
pub mod StartLaws
pub mod Outcomes
