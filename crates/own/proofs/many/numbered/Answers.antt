-- `own::many::numbered` meets its contract: the number of each case of the owner. Assumes nothing.
use Rattle.std.proofs.Common.{sym, ap, arith}
use Rattle.own.specs.Many.{owner_number}
use Rattle.own.proofs.ManyLaws.{cell_fits}
use Rattle.own.proofs.many.numbered.Goals as goal

pub overflow_mul-result : goal.overflow_mul-result
overflow_mul-result c = let l = cell_fits _ _ _ _ _ c.in-Cell.is c.requires in omega arith

pub overflow_add-result : goal.overflow_add-result
overflow_add-result c = let l = cell_fits _ _ _ _ _ c.in-Cell.is c.requires in omega arith

pub returns-in-Cell : goal.returns-in-Cell
unfolding owner_number
returns-in-Cell c = ap (owner_number _) (sym c.in-Cell.is)

pub returns-in-Seam : goal.returns-in-Seam
unfolding owner_number
returns-in-Seam c = ap (owner_number _) (sym c.in-Seam.is)

pub returns-in-Outside : goal.returns-in-Outside
unfolding owner_number
returns-in-Outside c = ap (owner_number _) (sym c.in-Outside.is)
