-- `through::rows::run_list` meets its contract. The invariant: what was left at the start is what was made and what is left now. Assumes nothing.
use lib.ListN.{length}
use Rattle.grid.specs.Domain.{lines}
use Rattle.seek.specs.declared.Place.TheVariants.{Global}
use Rattle.through.proofs.RowTurns.{ListRun}
use Rattle.listed.specs.Lists.{list_from}
use Rattle.through.proofs.rows.run_list.Given as goal

abbrev pub invariant-loop-hits : goal.invariant-loop-hits
invariant-loop-hits l = ListRun (lines l.start_x l.start_y l.end_x l.end_y) l.list l.i-2 l.j-2 l.initial.room l.initial.marks l.initial.first l.initial.second l.hits-2 l.room l.marks l.first l.second l.i l.j l.window.from l.window.held l.tests l.hits

abbrev pub decreases-loop-hits : goal.decreases-loop-hits
decreases-loop-hits l = length (list_from (Global 0) l.list l.i l.j)
