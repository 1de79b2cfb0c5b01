-- `walk::beside::neighbour_for` meets its contract. Assumes nothing.
use mathlib.Core.Path.{refl}
use Rattle.walk.specs.Neighbours.{neighbour_for}
use Rattle.walk.proofs.Modes.{by_row, covering_none}
use Rattle.walk.proofs.beside.neighbour_for.Goals as goal

pub returns-in-Off : goal.returns-in-Off
unfolding neighbour_for
returns-in-Off c = by_row c.in-Rust.is c.in-Off.is refl

pub returns-in-Above : goal.returns-in-Above
unfolding neighbour_for
returns-in-Above c = by_row c.in-Rust.is c.in-Above.is refl

pub returns-in-Below : goal.returns-in-Below
unfolding neighbour_for
returns-in-Below c = by_row c.in-Rust.is c.in-Below.is refl

pub returns-in-Off-side : goal.returns-in-Off-side
unfolding neighbour_for
returns-in-Off-side c = by_row c.in-Sided.is c.in-Off-side.is refl

pub returns-in-Above-side : goal.returns-in-Above-side
unfolding neighbour_for
returns-in-Above-side c = by_row c.in-Sided.is c.in-Above-side.is refl

pub returns-in-Below-side : goal.returns-in-Below-side
unfolding neighbour_for
returns-in-Below-side c = by_row c.in-Sided.is c.in-Below-side.is refl

pub returns-in-Covering : goal.returns-in-Covering
returns-in-Covering c = covering_none _ c.in-Covering.is
