-- Any two outcomes that the promise of `mt_add_line` admits are identical: its number, `out`, and every slice that it is lent to write, also where `out` is short, words are too
-- few to say a grid or a number names no mode of walk. Assumes nothing.
use mathlib.Core.Path.{◌≡◌, sym, ◌∙◌}
use mathlib.Core.List.{List}
use Prim.Native.Nat.{ℕ}
use lib.ListN.{length}
use Rattle.grid.specs.declared.Segment.{Segment}
use Rattle.grid.specs.Words.{grid_words}
use Rattle.tables.specs.Tables.{Tables}
use Rattle.added.proofs.Theorems as added
use Rattle.replies.proofs.Outcomes.{one_outcome}
use Rattle.replies.proofs.Handing.{by_size}
use Rattle.capi.specs.Unknown.{last_mode}
use Rattle.capi_added.specs.Lent.{AddedReplies}

module _ {words : List ℕ} {mode : ℕ} {line : Segment} {t : Tables} {s out : List ℕ} {r r₁ : ℕ} {o o₁ xs xs₁ gs gs₁ z z₁ out' out₁ : List ℕ}
    (h : AddedReplies words mode line t s out r o xs gs z out') (k : AddedReplies words mode line t s out r₁ o₁ xs₁ gs₁ z₁ out₁) where
  -- the lent slices of both are as they were
  abbrev Same : Type 0
  Same = (o ≡ o₁) × (xs ≡ xs₁) × (gs ≡ gs₁) × (z ≡ z₁)

  kept : (o ≡ t.offsets) × (xs ≡ t.items) × (gs ≡ t.globals) × (z ≡ s) → (o₁ ≡ t.offsets) × (xs₁ ≡ t.items) × (gs₁ ≡ t.globals) × (z₁ ≡ s) → Same
  kept x y = (x.0 ∙ sym y.0, x.1 ∙ sym y.1, x.2 ∙ sym y.2, x.3 ∙ sym y.3)

  lent : Same
  lent =
      by_size 3 (length out)
      (λ l.
      by_size grid_words (length words)
      (λ m.
      by_size mode last_mode (λ n. let b = added.one_outcome (h.called l m n) (k.called l m n) in (b.offsets, b.items, b.globals, b.scratch)) (λ n. kept (h.unwalked n) (k.unwalked n)))
      (λ m. kept (h.few m) (k.few m)))
      (λ l. kept (h.short l) (k.short l))

  pub added_one_outcome : (r ≡ r₁) × (out' ≡ out₁) × ((o ≡ o₁) × (xs ≡ xs₁) × (gs ≡ gs₁) × (z ≡ z₁))
  added_one_outcome = let a = one_outcome h.replies k.replies in (a.0, a.1, lent)
