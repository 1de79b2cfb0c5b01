-- `replay::say_kinds` is safe and ends. The invariant: no kind has more words than the file. Assumes nothing.
use Prim.Native.Nat.{◌+◌, ◌-◌, ◌*◌, ◌≤◌}
use lib.ListN.{length}
use Rattle.replay.proofs.say_kinds.Given as goal

abbrev pub invariant-loop-from : goal.invariant-loop-from
invariant-loop-from g l = (l.agree ≤ 196608 * l.from) × (l.kind ≤ l.from + 1) × (l.from ≤ length l.names + 1) × (length l.names ≤ 196608) × (length l.file ≤ 196608)

abbrev pub decreases-loop-from : goal.decreases-loop-from
decreases-loop-from g l = length l.names - l.from
