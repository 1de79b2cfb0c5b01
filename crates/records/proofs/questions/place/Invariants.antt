-- `records::questions::place` meets its contract. The invariant: it is at the place of slice i. Assumes nothing.
use mathlib.Core.Path.{◌≡◌}
use Prim.Native.Nat.{◌≤◌}
use Rattle.records.specs.Questions.{slice_place}
use Rattle.records.proofs.questions.place.Given as goal

abbrev pub invariant-loop-i : goal.invariant-loop-i
invariant-loop-i l = (l.at ≡ slice_place l.q l.numbers l._i) × (l._i ≤ l.k)
