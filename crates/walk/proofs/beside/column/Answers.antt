-- `walk::beside::column` meets its contract. Assumes nothing.
use native.Mathlib.Omega.{arith}
use Rattle.walk.specs.Neighbours.{column_of}
use Rattle.cover.proofs.Growing.{none}
use Rattle.walk.proofs.Added.{one_lower, one_upper}
use Rattle.walk.proofs.beside.column.Goals as goal

pub low_col-requires : goal.low_col-requires
low_col-requires c =
    let p = c.requires in
    record { room = omega (arith, p.room, one_lower c.in-Lower.is); some_columns = p.inside.some }

pub up_col-requires : goal.up_col-requires
up_col-requires c =
    let p = c.requires in
    record { room = omega (arith, p.room, one_upper c.in-Upper.is); inside = p.inside }

pub returns-in-None : goal.returns-in-None
unfolding column_of
returns-in-None c = rw c.in-None.is (none (omega arith))

pub returns-in-Lower : goal.returns-in-Lower
unfolding column_of
returns-in-Lower c = rw c.in-Lower.is c.low_col.ensures

pub returns-in-Upper : goal.returns-in-Upper
unfolding column_of
returns-in-Upper c = rw c.in-Upper.is c.up_col.ensures
