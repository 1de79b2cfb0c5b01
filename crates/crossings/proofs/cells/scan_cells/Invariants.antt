-- `crossings::cells::scan_cells` meets its contract. Assumes nothing.
use Prim.Native.Nat.{◌-◌}
use Rattle.samples.specs.Samples.{samples, sample_count}
use Rattle.samples.specs.Sharing.{shares}
use Rattle.first_tests.proofs.Lists.{Cells}
use Rattle.first_tests.proofs.Passing.{Beside}
use Rattle.crossings.proofs.cells.scan_cells.Given as goal

abbrev pub invariant-loop-cell : goal.invariant-loop-cell
invariant-loop-cell l =
    let ss = samples l.start_x l.start_y l.end_x l.end_y in
    Beside 4096 l.marks (Cells (shares ss) (sample_count ss) l.cells l.offsets l.items l.starts l.listing l.initial.counts l.initial.first l.initial.second l.counts l.first l.second l.hits l.cell)
