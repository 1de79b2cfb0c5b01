-- Any two outcomes that the promise of `mt_block_counts` admits are identical: its number, `out` and the summary, also where `out` is short or words are
-- too few to say a grid. Assumes nothing.
use mathlib.Core.Path.{◌≡◌, sym, ◌∙◌}
use mathlib.Core.List.{List}
use Prim.Native.Nat.{ℕ}
use lib.ListN.{length}
use Rattle.grid.specs.declared.Grid.{Grid}
use Rattle.grid.specs.Words.{grid_words}
use Rattle.tables.specs.Tables.{Tables}
use Rattle.replies.proofs.Outcomes.{one_outcome}
use Rattle.replies.proofs.Handing.{by_size}
use Rattle.capi_blocks.specs.Lent.{MakeReplies}

module _ {words : List ℕ} {g : Grid} {t : Tables} {summary out : List ℕ} {r r₁ : ℕ} {summary' out' summary₁ out₁ : List ℕ}
    (h : MakeReplies words g t summary out r summary' out') (k : MakeReplies words g t summary out r₁ summary₁ out₁) where
  pub counts_one_outcome : (r ≡ r₁) × (out' ≡ out₁) × (summary' ≡ summary₁)
  counts_one_outcome =
      let a = one_outcome h.replies k.replies in (
        a.0,
        a.1,
        by_size 1 (length out)
            (λ l. by_size grid_words (length words) (λ m. (h.called l m).left ∙ sym (k.called l m).left) (λ m. h.few m ∙ sym (k.few m)))
            (λ l. h.short l ∙ sym (k.short l)),
      )
