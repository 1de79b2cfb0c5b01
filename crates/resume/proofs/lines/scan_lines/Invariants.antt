-- `resume::lines::scan_lines` meets its contract. The invariant: the lines before the u-th are done. Assumes nothing.
use Rattle.grid.specs.Domain.{lines}
use Rattle.resume.proofs.LineTurns.{LinesTurn}
use Rattle.resume.proofs.lines.scan_lines.Given as goal

abbrev pub invariant-loop-u : goal.invariant-loop-u
invariant-loop-u l = LinesTurn (lines l.start_x l.start_y l.end_x l.end_y) l.line l.from l.many l.initial.first l.initial.second l.hits-2 l.bounds l.first l.second l.hits l.u
