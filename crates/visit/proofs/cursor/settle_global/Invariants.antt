-- `visit::cursor::settle_global` meets its contract. The invariant: the same is left as at the start. Assumes nothing.
use Prim.Native.Nat.{◌+◌, ◌-◌, ◌*◌}
use Rattle.visit.proofs.GlobalTurns.{Gliding}
use Rattle.visit.proofs.cursor.settle_global.Given as goal

abbrev pub invariant-loop-p : goal.invariant-loop-p
invariant-loop-p l = Gliding l.lines l.count l.globals l.initial.p l.initial.q l.initial.k l.p l.q l.k

abbrev pub decreases-loop-p : goal.decreases-loop-p
decreases-loop-p l = (l.count - l.p) * (l.count + 2) + (l.p + 1 - l.q)
