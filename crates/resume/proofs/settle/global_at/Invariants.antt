-- `resume::settle::global_at` meets its contract. The invariant: the same is left as at the start. Assumes nothing.
use Prim.Native.Nat.{◌+◌, ◌-◌, ◌*◌}
use lib.ListN.{length}
use Rattle.visit.proofs.GlobalTurns.{Gliding}
use Rattle.resume.proofs.settle.global_at.Given as goal

abbrev pub invariant-loop-p : goal.invariant-loop-p
invariant-loop-p l = Gliding l.lines (length l.globals) l.globals l.p-2 l.q-2 l.k-2 l.p l.q l.k

abbrev pub decreases-loop-p : goal.decreases-loop-p
decreases-loop-p l = (length l.globals - l.p) * (length l.globals + 2) + (l.p + 1 - l.q)
