-- `counts::adding::add_all` meets its contract. Assumes nothing.
use Prim.Native.Nat.{◌-◌}
use lib.ListN.{length}
use Rattle.counts.proofs.AddLaws.{Writing}
use Rattle.counts.proofs.adding.add_all.Given as goal

abbrev pub invariant-loop-c : goal.invariant-loop-c
invariant-loop-c l = Writing l.initial.into l.from l.into l.c
