-- `counts::sum_of` meets its contract. Assumes nothing.
use Prim.Native.Nat.{◌-◌}
use Rattle.counts.proofs.Lists.{Summing}
use Rattle.counts.proofs.sum_of.Given as goal

abbrev pub invariant-loop-c : goal.invariant-loop-c
invariant-loop-c l = Summing l.counts l.cells l.total l.c
