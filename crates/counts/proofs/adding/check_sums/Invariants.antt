-- `counts::adding::check_sums` meets its contract. Assumes nothing.
use Prim.Native.Nat.{◌-◌}
use lib.ListN.{length}
use Rattle.counts.proofs.AddLaws.{Searching}
use Rattle.counts.proofs.adding.check_sums.Given as goal

abbrev pub invariant-loop-c : goal.invariant-loop-c
invariant-loop-c l = Searching l.into l.from l.c
