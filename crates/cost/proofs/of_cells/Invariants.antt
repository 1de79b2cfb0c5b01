-- `cost::of_cells` meets its contract. Assumes nothing.
use Rattle.cost.proofs.Costs.{Adding}
use Rattle.cost.proofs.of_cells.Given as goal

abbrev pub invariant-loop-cell : goal.invariant-loop-cell
invariant-loop-cell l = Adding l.cells l.offsets l.cell l.tests l.longest
