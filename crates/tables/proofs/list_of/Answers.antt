-- `tables::list_of` meets its contract. Assumes nothing.
use native.Mathlib.Omega.{arith}
use Rattle.tables.proofs.Parts.{part_untold, part_falls, part_beyond, part_there}
use Rattle.tables.proofs.list_of.Goals as goal

pub returns-then-offsets-cell : goal.returns-then-offsets-cell
returns-then-offsets-cell c = let a = c.args in part_untold a.offsets.now a.items.now a.cell (omega arith)

pub returns-then-offsets-cell-2 : goal.returns-then-offsets-cell-2
returns-then-offsets-cell-2 c = let a = c.args in part_untold a.offsets.now a.items.now a.cell (omega arith)

pub returns-then-end-begin : goal.returns-then-end-begin
returns-then-end-begin c =
    let a = c.args in
    part_falls a.offsets.now a.items.now a.cell _ _ c.wide-begin.ensures c.wide-end.ensures c.if-end-begin.true

pub returns-then-items-end : goal.returns-then-items-end
returns-then-items-end c =
    let a = c.args in
    part_beyond a.offsets.now a.items.now a.cell _ _ c.wide-begin.ensures c.wide-end.ensures c.if-end-begin.false c.if-items-end.true

pub returns : goal.returns
returns c =
    let a = c.args in
    part_there a.offsets.now a.items.now a.cell _ _ c.wide-begin.ensures c.wide-end.ensures c.if-end-begin.false c.if-items-end.false
