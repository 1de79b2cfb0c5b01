-- Any two outcomes that the promise of a run admits are identical: the answer, both outputs. Assumes nothing.
use mathlib.Core.Path.{◌≡◌, sym, ◌∙◌}
use mathlib.Core.Bool.{Bool}
use mathlib.Core.List.{List}
use Prim.Native.Nat.{ℕ}
use lib.ListN.{drop}
use Rattle.grid.specs.Domain.{Lines, count}
use Rattle.seek.specs.Tests.{Pair}
use Rattle.listed.proofs.Outcomes.{one_at}
use Rattle.through.specs.declared.CellsMade.{CellsMade}
use Rattle.through.specs.Runs.{within_fit, RanIs}

module _ (ls : Lines) (cols m : ℕ) (offsets items : List ℕ) (rest : List Pair) (run : Bool) (first second : List ℕ) where
  answer_is : (r₁ r₂ : CellsMade) → r₁.tests ≡ r₂.tests → r₁.overlaps ≡ r₂.overlaps → r₁.at ≡ r₂.at → r₁ ≡ r₂
  answer_is r₁ r₂ t o a =
      let e : ◌≡◌ {A = CellsMade} (record { tests = r₁.tests; overlaps = r₁.overlaps; at = r₁.at }) (record { tests = r₂.tests; overlaps = r₂.overlaps; at = r₂.at }) = rw (t, o, a) in
      e

  pub one_outcome : (first₁ second₁ first₂ second₂ : List ℕ) (r₁ r₂ : CellsMade)
      → RanIs ls cols m offsets items rest run first second first₁ second₁ r₁ → RanIs ls cols m offsets items rest run first second first₂ second₂ r₂
      → (r₁ ≡ r₂) × ((first₁ ≡ first₂) × (second₁ ≡ second₂))
  one_outcome first₁ second₁ first₂ second₂ r₁ r₂ a b =
      let t : r₁.tests ≡ r₂.tests = a.tests ∙ sym b.tests in (
        answer_is r₁ r₂ t (a.overlaps ∙ sym b.overlaps) (one_at cols (count ls) (within_fit m) offsets items (drop r₂.tests rest) r₁.at r₂.at (rw t at a.at) b.at),
        (a.first_is ∙ sym b.first_is, a.second_is ∙ sym b.second_is),
      )
