-- `clean::marks::mark_member` meets its contract. The invariant: the pieces before `start`, and the points between them, are marked. Assumes nothing.
use Prim.Native.Nat.{◌-◌}
use Rattle.clean.proofs.Walking.{InMember}
use Rattle.clean.proofs.marks.mark_member.Given as goal

abbrev pub invariant-loop-from : goal.invariant-loop-from
invariant-loop-from l = InMember l.x l.y l.from l.end l.initial.reasons l.initial.lengths l.reasons l.lengths l.at-2 l.at l.start

abbrev pub decreases-loop-from : goal.decreases-loop-from
decreases-loop-from l = l.end - l.start
