-- Any two outcomes that the promise of `mt_batch_places` admits are identical: its number, `out`, the outputs and the places, also where `out` is
-- short or words are too few to say a grid. Assumes nothing.
use mathlib.Core.Path.{◌≡◌, sym, ◌∙◌}
use mathlib.Core.List.{List}
use Prim.Native.Nat.{ℕ}
use lib.ListN.{length}
use Rattle.grid.specs.declared.Grid.{Grid}
use Rattle.grid.specs.Domain.{Lines}
use Rattle.grid.specs.Words.{grid_words}
use Rattle.tables.specs.Tables.{Tables}
use Rattle.visit.proofs.Outcomes.{one_outcome_with_places}
use Rattle.replies.proofs.Outcomes.{one_outcome}
use Rattle.replies.proofs.Handing.{by_size}
use Rattle.capi_places.specs.Lent.{PlacesReplies}

module _ {words : List ℕ} {ls : Lines} {g : Grid} {t : Tables} {b : ℕ} {first second places out : List ℕ} {r r₁ : ℕ}
    {first' second' places' out' first₁ second₁ places₁ out₁ : List ℕ}
    (h : PlacesReplies words ls g t b first second places out r first' second' places' out') (k : PlacesReplies words ls g t b first second places out r₁ first₁ second₁ places₁ out₁) where
  alike : (first' ≡ first) × (second' ≡ second) × (places' ≡ places) → (first₁ ≡ first) × (second₁ ≡ second) × (places₁ ≡ places)
      → (first' ≡ first₁) × (second' ≡ second₁) × (places' ≡ places₁)
  alike x y = (x.0 ∙ sym y.0, x.1 ∙ sym y.1, x.2 ∙ sym y.2)

  lent : (first' ≡ first₁) × (second' ≡ second₁) × (places' ≡ places₁)
  lent =
      by_size 3 (length out)
      (λ l. by_size grid_words (length words) (λ m. let a = one_outcome_with_places (h.called l m) (k.called l m) in (a.1, a.2, a.3)) (λ m. alike (h.few m) (k.few m)))
      (λ l. alike (h.short l) (k.short l))

  pub places_one_outcome : (r ≡ r₁) × (out' ≡ out₁) × (first' ≡ first₁) × (second' ≡ second₁) × (places' ≡ places₁)
  places_one_outcome = let a = one_outcome h.replies k.replies in (a.0, a.1, lent.0, lent.1, lent.2)
