-- Any two outcomes that the promise of `mt_add_line_blocks` admits are identical: its number, `out`, and every slice that it is lent to write, also where `out`
-- is short, words are too few to say a grid or a number names no mode of walk. Assumes nothing.
use mathlib.Core.Path.{◌≡◌, sym, ◌∙◌}
use mathlib.Core.List.{List}
use Prim.Native.Nat.{ℕ}
use lib.ListN.{length}
use Rattle.grid.specs.declared.Segment.{Segment}
use Rattle.grid.specs.Words.{grid_words}
use Rattle.tables.specs.Tables.{Tables}
use Rattle.blocks_added.proofs.Kept as beside
use Rattle.replies.proofs.Outcomes.{one_outcome}
use Rattle.replies.proofs.Handing.{by_size}
use Rattle.capi.specs.Unknown.{last_mode}
use Rattle.capi_blocks_added.specs.Lent.{Kept, BesideReplies}

module _ {words : List ℕ} {mode : ℕ} {line : Segment} {t : Tables} {kept s out : List ℕ} {r r₁ : ℕ} {o o₁ xs xs₁ gs gs₁ k k₁ z z₁ out' out₁ : List ℕ}
    (h : BesideReplies words mode line t kept s out r o xs gs k z out') (j : BesideReplies words mode line t kept s out r₁ o₁ xs₁ gs₁ k₁ z₁ out₁) where
  abbrev Same : Type 0
  Same = (o ≡ o₁) × (xs ≡ xs₁) × (gs ≡ gs₁) × (k ≡ k₁) × (z ≡ z₁)

  stayed : Kept t kept s o xs gs k z → Kept t kept s o₁ xs₁ gs₁ k₁ z₁ → Same
  stayed x y = (x.offsets ∙ sym y.offsets, x.items ∙ sym y.items, x.globals ∙ sym y.globals, x.summary_is ∙ sym y.summary_is, x.scratch_is ∙ sym y.scratch_is)

  lent : Same
  lent =
      by_size 3 (length out)
      (λ l.
      by_size grid_words (length words)
      (λ m.
      by_size mode last_mode (λ n. let b = beside.one_outcome (h.called l m n) (j.called l m n) in (b.offsets, b.items, b.globals, b.summary, b.scratch)) (λ n. stayed (h.unwalked n) (j.unwalked n)))
      (λ m. stayed (h.few m) (j.few m)))
      (λ l. stayed (h.short l) (j.short l))

  pub beside_one_outcome : (r ≡ r₁) × (out' ≡ out₁) × ((o ≡ o₁) × (xs ≡ xs₁) × (gs ≡ gs₁) × (k ≡ k₁) × (z ≡ z₁))
  beside_one_outcome = let a = one_outcome h.replies j.replies in (a.0, a.1, lent)
