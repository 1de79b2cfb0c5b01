-- `tables::rising::lists_rise` meets its contract. The invariant: the lists before that of `cell`, and the entries before `k`, were looked at. Assumes nothing.
use Prim.Native.Nat.{◌-◌}
use Rattle.tables.proofs.Breaks.{BlocksSeen}
use Rattle.tables.proofs.rising.lists_rise.Given as goal

abbrev pub invariant-loop-cell : goal.invariant-loop-cell
invariant-loop-cell l = BlocksSeen l.most l.cells l.offsets l.items l.breaks l.begins l.cell l.k

abbrev pub decreases-loop-cell : goal.decreases-loop-cell
decreases-loop-cell l = l.cells - l.cell
