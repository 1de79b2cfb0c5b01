-- `through::rows::run_brief` meets its contract. The invariant: the rows before i are done. Assumes nothing.
use Rattle.grid.specs.Domain.{lines}
use Rattle.through.proofs.BriefTurns.{BriefRun}
use Rattle.through.proofs.rows.run_brief.Given as goal

abbrev pub invariant-loop-i : goal.invariant-loop-i
invariant-loop-i l = BriefRun (lines l.start_x l.start_y l.end_x l.end_y) l.list l.flat l.initial.first l.initial.second l.hits-2 l.first l.second l.i l.tests l.hits
