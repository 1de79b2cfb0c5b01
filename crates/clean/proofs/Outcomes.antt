-- Any two outcomes that the promise admits are identical. Assumes nothing.
use Rattle.std.specs.Prelude.{Result}
use Rattle.refusals.specs.declared.Refusal.{Refusal}
use mathlib.Core.Path.{◌≡◌, sym, ◌∙◌}
use mathlib.Core.List.{List}
use Prim.Native.Nat.{ℕ}
use Rattle.clean.specs.declared.Cleaned.{Cleaned}
use Rattle.clean.specs.Calls.{Outputs, CleanedAs}

pub one_outcome : {x y lengths : List ℕ} {o o' o₁ : Outputs} {r r₁ : Result Cleaned Refusal} → CleanedAs x y lengths o r o' → CleanedAs x y lengths o r₁ o₁ → (r ≡ r₁) × (o' ≡ o₁)
one_outcome h k = (h.answer ∙ sym k.answer, h.left ∙ sym k.left)
