-- Any two outcomes that the promise of `cells_of_segment` admits are identical. Assumes nothing.
use Rattle.std.specs.Prelude.{Result}
use Rattle.refusals.specs.declared.Refusal.{Refusal}
use mathlib.Core.Path.{◌≡◌, sym, ◌∙◌}
use mathlib.Core.List.{List}
use Prim.Native.Nat.{ℕ}
use Rattle.turns.specs.Pushes.{Outcome}
use Rattle.walk.specs.Segment.{Entered}

pub one_outcome : {o : Outcome} {was now now₁ : List ℕ} {r r₁ : Result ℕ Refusal} → Entered o was r now → Entered o was r₁ now₁ → (r ≡ r₁) × (now ≡ now₁)
one_outcome h k = (h.answer ∙ sym k.answer, h.left ∙ sym k.left)
