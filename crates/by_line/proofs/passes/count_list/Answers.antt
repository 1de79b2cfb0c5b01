-- `by_line::passes::count_list` meets its contract. Assumes nothing.
use native.Mathlib.Omega.{arith}
use Rattle.fill.proofs.Visits.{counting_none, counting_cell, counting_fits, counting_more, counting_done}
use Rattle.by_line.proofs.passes.count_list.Goals as goal

pub loop-line-init : goal.loop-line-init
loop-line-init c = counting_none c.requires

pub offset_bounds-counts-line : goal.offset_bounds-counts-line
offset_bounds-counts-line c = let h = counting_cell c.loop-line.invariant c.loop-line-test.true in let l = c.loop-line.invariant.len in omega arith

pub bounds-counts-line : goal.bounds-counts-line
bounds-counts-line c = counting_cell c.loop-line.invariant c.loop-line-test.true

pub overflow_add-counts : goal.overflow_add-counts
overflow_add-counts c = record { fits = counting_fits c.loop-line.invariant c.loop-line-test.true }

pub bounds-counts-line-in-loop-line : goal.bounds-counts-line-in-loop-line
bounds-counts-line-in-loop-line c = counting_cell c.loop-line.invariant c.loop-line-test.true

pub loop-line-preserved : goal.loop-line-preserved
loop-line-preserved c = counting_more c.loop-line.invariant c.loop-line-test.true

pub shape_of-counts : goal.shape_of-counts
shape_of-counts c = c.loop-line.invariant.len

pub returns : goal.returns
returns c = counting_done c.loop-line.invariant c.loop-line-test.false
