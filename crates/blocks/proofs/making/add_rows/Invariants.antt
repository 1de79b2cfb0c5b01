-- `blocks::making::add_rows` meets its contract: the rows before `row` are added. Assumes nothing.
use Rattle.blocks.proofs.Telling.{Downward}
use Rattle.blocks.proofs.making.add_rows.Given as goal

abbrev pub invariant-loop-row : goal.invariant-loop-row
invariant-loop-row l = Downward l.cols l.rows l.offsets l.initial.summary l.summary l.row
