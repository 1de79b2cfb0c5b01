-- `cost::of_cells` meets its contract. Assumes nothing.
use mathlib.Core.Path.{refl}
use Rattle.cost.proofs.Costs.{adding_none, adding_up, adding_fits, adding_more, adding_done}
use Rattle.cost.proofs.of_cells.Goals as goal

pub loop-cell-init : goal.loop-cell-init
loop-cell-init c = adding_none c.requires

pub overflow_sub-k : goal.overflow_sub-k
overflow_sub-k c = adding_up c.loop-cell.invariant c.loop-cell-test.true

pub overflow_add-tests : goal.overflow_add-tests
overflow_add-tests c = record { fits = adding_fits c.loop-cell.invariant c.loop-cell-test.true _ refl c.triangle-tests.result c.triangle-tests.ensures }

pub loop-cell-preserved : goal.loop-cell-preserved
loop-cell-preserved c =
    let l = c.loop-cell in
    adding_more l.invariant c.loop-cell-test.true _ refl c.triangle-tests.result c.greater-longest.result c.triangle-tests.ensures (rw (← c.wide.ensures) c.greater-longest.ensures)

pub returns : goal.returns
returns c = adding_done c.loop-cell.invariant c.loop-cell-test.false
