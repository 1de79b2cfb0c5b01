-- Any two outcomes that the promise of `mt_window` admits are identical: its number, `out` and the lines, also where `out` is short or words are too
-- few to say a grid. Assumes nothing.
use mathlib.Core.Path.{◌≡◌, sym, ◌∙◌}
use mathlib.Core.List.{List}
use Prim.Native.Nat.{ℕ}
use lib.ListN.{length}
use Rattle.grid.specs.declared.Grid.{Grid}
use Rattle.grid.specs.declared.Box.{Box}
use Rattle.grid.specs.Domain.{Lines}
use Rattle.grid.specs.Words.{grid_words}
use Rattle.tables.specs.Tables.{Tables}
use Rattle.replies.proofs.Outcomes.{one_outcome}
use Rattle.replies.proofs.Handing.{by_size}
use Rattle.capi_window.specs.Lent.{WindowReplies}

module _ {words : List ℕ} {ls : Lines} {g : Grid} {t : Tables} {w : Box} {found out : List ℕ} {r r₁ : ℕ} {found' out' found₁ out₁ : List ℕ}
    (h : WindowReplies words ls g t w found out r found' out') (k : WindowReplies words ls g t w found out r₁ found₁ out₁) where
  pub window_one_outcome : (r ≡ r₁) × (out' ≡ out₁) × (found' ≡ found₁)
  window_one_outcome =
      let a = one_outcome h.replies k.replies in (
        a.0,
        a.1,
        by_size 1 (length out)
            (λ l. by_size grid_words (length words) (λ m. (h.called l m).left ∙ sym (k.called l m).left) (λ m. h.few m ∙ sym (k.few m)))
            (λ l. h.short l ∙ sym (k.short l)),
      )
