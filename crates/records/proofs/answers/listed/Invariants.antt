-- `records::answers::listed` meets its contract. The invariant: beyond i entries there is nothing to list. Assumes nothing.
use mathlib.Core.Path.{◌≡◌}
use Prim.Native.Nat.{◌≤◌}
use lib.ListN.{length, take}
use Rattle.records.specs.Answers.{listed_of}
use Rattle.records.proofs.answers.listed.Given as goal

abbrev pub invariant-loop-i : goal.invariant-loop-i
invariant-loop-i l = (l.i ≤ length l.s) × (listed_of l.s ≡ listed_of (take l.i l.s))
