-- `by_line::passes::count_all` meets its contract. Assumes nothing.
use Rattle.by_line.proofs.Turns.{counting_none, counting_can, counting_more, counting_done}
use Rattle.by_line.proofs.passes.count_all.Goals as goal

pub loop-cell-init : goal.loop-cell-init
loop-cell-init c = counting_none c.requires

pub list_of-requires : goal.list_of-requires
list_of-requires c = record { m = _; fits = c.loop-cell.invariant.table.fits; inside = c.loop-cell-test.true }

pub count_list-requires : goal.count_list-requires
count_list-requires c = counting_can c.loop-cell.invariant c.loop-cell-test.true c.list_of.ensures

pub loop-cell-preserved : goal.loop-cell-preserved
loop-cell-preserved c = counting_more c.loop-cell.invariant c.loop-cell-test.true c.list_of.ensures c.count_list.auto.counts c.count_list.ensures

pub shape_of-counts : goal.shape_of-counts
shape_of-counts c = c.loop-cell.invariant.len

pub returns : goal.returns
returns c = counting_done c.loop-cell.invariant c.loop-cell-test.false
