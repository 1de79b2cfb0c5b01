-- `records::questions::place` meets its contract. The invariant: it is at the place of slice i. Assumes nothing.
use mathlib.Core.Path.{◌≡◌, ap, ◌∙◌}
use native.Mathlib.Omega.{arith}
use Rattle.records.specs.Questions.{slice_place}
use Rattle.records.proofs.Parts.{place_first, place_next}
use Rattle.records.proofs.questions.place.Goals as goal

pub loop-i-init : goal.loop-i-init
loop-i-init c = (place_first _ _, omega arith)

pub loop-i-preserved : goal.loop-i-preserved
loop-i-preserved c = (place_next _ _ _ _ _ c.loop-i.invariant.0 c.end-at.ensures.0, omega arith)

pub returns : goal.returns
returns c = let e : c.loop-i._i ≡ c.args.k = omega arith in c.loop-i.invariant.0 ∙ ap (slice_place _ _) e
