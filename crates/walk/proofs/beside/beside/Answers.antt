-- `walk::beside::beside` meets its contract. Assumes nothing.
use native.Mathlib.Omega.{arith}
use Rattle.walk.proofs.Added.{within_less, column_room, row_room, corner_room, corner_within, with_corner, without_corner}
use Rattle.walk.proofs.beside.beside.Goals as goal

pub column-a-requires : goal.column-a-requires
column-a-requires c = let p = c.requires in record { room = column_room _ _ _ _ p.room; inside = within_less p.inside }

pub row-b-requires : goal.row-b-requires
row-b-requires c =
    let p = c.requires in
    record { room = row_room _ _ _ _ c.column-a.ensures p.room; inside = within_less p.inside }

pub row-requires : goal.row-requires
row-requires c =
    let p = c.requires in
    let a = c.column-a.ensures in
    let b = c.row-b.ensures in
    let h = c.if-n-a.true in
    record { room = corner_room (omega arith) _ _ _ _ _ a b h p.room; inside = corner_within (omega arith) _ _ _ _ _ a b h p.inside }

pub returns-then-n-a : goal.returns-then-n-a
returns-then-n-a c = with_corner (omega arith) _ _ _ _ _ c.column-a.ensures c.row-b.ensures c.if-n-a.true c.row.ensures

pub returns : goal.returns
returns c = without_corner (omega arith) _ _ _ _ _ c.column-a.ensures c.row-b.ensures c.if-n-a.false
