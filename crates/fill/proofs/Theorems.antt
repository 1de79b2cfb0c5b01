-- What follows from the promises of the entries alone: each settles everything. Assumes nothing.
use Rattle.std.specs.Prelude.{Result}
use Rattle.refusals.specs.declared.Refusal.{Refusal}
use mathlib.Core.Path.{◌≡◌, sym, ◌∙◌}
use mathlib.Core.List.{List}
use Prim.Native.Nat.{ℕ}
use Rattle.refusals.specs.Refusals.{Answer}
use Rattle.grid.specs.declared.Grid.{Grid}
use Rattle.grid.specs.Domain.{Lines}
use Rattle.walk.specs.declared.Mode.{Mode}
use Rattle.fill.specs.declared.Filled.{Filled}
use Rattle.fill.specs.Fill.{CountIs, Filling, FillIs}

-- any two outcomes of a count are identical
pub one_count : {mode : Mode} {g : Grid} {ls : Lines} {o s : List ℕ} {r r₁ : Result ℕ Refusal} {o' o₁ s' s₁ : List ℕ} {a : Answer ℕ}
    → CountIs mode g ls o s r o' s' a → CountIs mode g ls o s r₁ o₁ s₁ a → (r ≡ r₁) × (o' ≡ o₁) × (s' ≡ s₁)
one_count h k = (h.answer ∙ sym k.answer, h.counts_are ∙ sym k.counts_are, h.scratch_is ∙ sym k.scratch_is)

-- and of a fill
pub one_fill : {mode : Mode} {g : Grid} {ls : Lines} {o t gs s : List ℕ} {r r₁ : Result Filled Refusal} {o' o₁ t' t₁ gs' gs₁ s' s₁ : List ℕ} {f : Answer Filling}
    → FillIs mode g ls o t gs s r o' t' gs' s' f → FillIs mode g ls o t gs s r₁ o₁ t₁ gs₁ s₁ f → (r ≡ r₁) × (o' ≡ o₁) × (t' ≡ t₁) × (gs' ≡ gs₁) × (s' ≡ s₁)
one_fill h k = (
  h.answer ∙ sym k.answer,
  h.offsets_are ∙ sym k.offsets_are,
  h.items_are ∙ sym k.items_are,
  h.globals_are ∙ sym k.globals_are,
  h.scratch_is ∙ sym k.scratch_is,
)
