-- `walk::is_turning` meets its contract. Assumes nothing.
use Rattle.walk.proofs.Reaching.{turns_rust, turns_sided, turns_not}
use Rattle.walk.proofs.is_turning.Goals as goal

pub returns-in-Rust : goal.returns-in-Rust
returns-in-Rust c = turns_rust c.in-Rust.is

pub returns-in-Sided : goal.returns-in-Sided
returns-in-Sided c = turns_sided c.in-Sided.is

pub returns-in-Covering : goal.returns-in-Covering
returns-in-Covering c = turns_not c.in-Covering.is
