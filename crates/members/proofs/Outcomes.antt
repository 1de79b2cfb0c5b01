-- Any two outcomes that a promise admits are identical. Assumes nothing.
use Rattle.std.specs.Prelude.{Result}
use Rattle.refusals.specs.declared.Refusal.{Refusal}
use mathlib.Core.Path.{◌≡◌, sym, ◌∙◌}
use mathlib.Core.List.{List}
use Prim.Native.Nat.{ℕ}
use Rattle.grid.specs.Domain.{Lines}
use Rattle.members.specs.Writing.{WrittenAs}
use Rattle.members.specs.Lining.{LinedAs}

pub written_outcome : {x y ns b b' b₁ : List ℕ} {r r₁ : Result ℕ Refusal} → WrittenAs x y ns b r b' → WrittenAs x y ns b r₁ b₁ → (r ≡ r₁) × (b' ≡ b₁)
written_outcome h k = (h.answer ∙ sym k.answer, h.in_bytes ∙ sym k.in_bytes)

pub lined_outcome : {x y ns : List ℕ} {ls ls' ls₁ : Lines} {r r₁ : Result ℕ Refusal} → LinedAs x y ns ls r ls' → LinedAs x y ns ls r₁ ls₁ → (r ≡ r₁) × (ls' ≡ ls₁)
lined_outcome h k = (h.answer ∙ sym k.answer, h.left ∙ sym k.left)
