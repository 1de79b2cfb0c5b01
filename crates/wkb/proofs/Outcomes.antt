-- Any two outcomes that a reader's promise admits are identical. Assumes nothing.
use Rattle.std.specs.Prelude.{Result}
use Rattle.refusals.specs.declared.Refusal.{Refusal}
use mathlib.Core.Path.{◌≡◌, sym, ◌∙◌}
use mathlib.Core.List.{List}
use Prim.Native.Nat.{ℕ}
use lib.Ieee.{Float}
use Rattle.wkb.specs.declared.MultiRead.{MultiRead}
use Rattle.wkb.specs.Reading.{ReadAs}
use Rattle.wkb.specs.Multi.{MultiReadAs}

pub one_outcome : {bytes : List ℕ} {x y x' x₁ y' y₁ : List Float} {r r₁ : Result ℕ Refusal}
    → ReadAs bytes x y r x' y' → ReadAs bytes x y r₁ x₁ y₁ → (r ≡ r₁) × (x' ≡ x₁) × (y' ≡ y₁)
one_outcome h k = (h.answer ∙ sym k.answer, h.in_x ∙ sym k.in_x, h.in_y ∙ sym k.in_y)

pub multi_outcome : {bytes x y l x' x₁ y' y₁ l' l₁ : List ℕ} {r r₁ : Result MultiRead Refusal}
    → MultiReadAs bytes x y l r x' y' l' → MultiReadAs bytes x y l r₁ x₁ y₁ l₁ → (r ≡ r₁) × (x' ≡ x₁) × (y' ≡ y₁) × (l' ≡ l₁)
multi_outcome h k =
    (h.answer ∙ sym k.answer, h.in_x ∙ sym k.in_x, h.in_y ∙ sym k.in_y, h.in_lengths ∙ sym k.in_lengths)
