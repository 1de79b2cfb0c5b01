-- `walk::beside::row` meets its contract. Assumes nothing.
use native.Mathlib.Omega.{arith}
use Rattle.walk.specs.Neighbours.{row_of}
use Rattle.cover.proofs.Growing.{none}
use Rattle.walk.proofs.Added.{one_lower, one_upper}
use Rattle.walk.proofs.beside.row.Goals as goal

pub low_row-requires : goal.low_row-requires
low_row-requires c =
    let p = c.requires in
    omega (arith, p.room, one_lower c.in-Lower.is)

pub up_row-requires : goal.up_row-requires
up_row-requires c =
    let p = c.requires in
    record { room = omega (arith, p.room, one_upper c.in-Upper.is); inside = p.inside }

pub returns-in-None : goal.returns-in-None
unfolding row_of
returns-in-None c = rw c.in-None.is (none (omega arith))

pub returns-in-Lower : goal.returns-in-Lower
unfolding row_of
returns-in-Lower c = rw c.in-Lower.is c.low_row.ensures

pub returns-in-Upper : goal.returns-in-Upper
unfolding row_of
returns-in-Upper c = rw c.in-Upper.is c.up_row.ensures
