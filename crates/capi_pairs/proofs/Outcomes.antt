-- Any two outcomes that the promises of `mt_lists_by_line` and of `mt_pairs_once` admit are identical: the number, `out` and every slice, also
-- where `out` is short or words are too few to say a grid. Assumes nothing.
use mathlib.Core.Path.{◌≡◌, refl, sym, ◌∙◌}
use mathlib.Core.List.{List}
use Prim.Native.Nat.{ℕ}
use lib.ListN.{length}
use Rattle.grid.specs.declared.Grid.{Grid}
use Rattle.grid.specs.Words.{grid_words}
use Rattle.tables.specs.Tables.{Tables}
use Rattle.refusals.specs.Refusals.{Answer}
use Rattle.seek.specs.Tests.{Pair}
use Rattle.first_tests.specs.Firsts.{PairsAre}
use Rattle.replies.proofs.Outcomes.{one_outcome}
use Rattle.replies.proofs.Handing.{by_size}
use Rattle.capi_pairs.specs.Lent.{ByLineReplies, once_answer, SameFive, OnceReplies}

module _ {words : List ℕ} {g : Grid} {t : Tables} {starts listing out : List ℕ} {r r₁ : ℕ} {starts' listing' out' starts₁ listing₁ out₁ : List ℕ}
    (h : ByLineReplies words g t starts listing out r starts' listing' out') (k : ByLineReplies words g t starts listing out r₁ starts₁ listing₁ out₁) where
  pub by_line_one_outcome : (r ≡ r₁) × (out' ≡ out₁) × (starts' ≡ starts₁) × (listing' ≡ listing₁)
  by_line_one_outcome =
      let a = one_outcome h.replies k.replies in (
        a.0,
        a.1,
        by_size 1 (length out)
            (λ l. by_size grid_words (length words) (λ m. (h.called l m).starts_are ∙ sym (k.called l m).starts_are) (λ m. (h.few m).0 ∙ sym (k.few m).0))
            (λ l. (h.short l).0 ∙ sym (k.short l).0),
        by_size 1 (length out)
            (λ l. by_size grid_words (length words) (λ m. (h.called l m).listing_is ∙ sym (k.called l m).listing_is) (λ m. (h.few m).1 ∙ sym (k.few m).1))
            (λ l. (h.short l).1 ∙ sym (k.short l).1),
      )

pub same_five : {first second starts listing counts : List ℕ} → SameFive first second starts listing counts first second starts listing counts
same_five = record { first_same = refl; second_same = refl; starts_same = refl; listing_same = refl; counts_same = refl }

-- two outcomes that are the same five slices
module _ {first second starts listing counts first' second' starts' listing' counts' first₁ second₁ starts₁ listing₁ counts₁ : List ℕ} where
  untouched : SameFive first second starts listing counts first' second' starts' listing' counts' → SameFive first second starts listing counts first₁ second₁ starts₁ listing₁ counts₁
      → SameFive first' second' starts' listing' counts' first₁ second₁ starts₁ listing₁ counts₁
  untouched h k =
      record {
        first_same = k.first_same ∙ sym h.first_same;
        second_same = k.second_same ∙ sym h.second_same;
        starts_same = k.starts_same ∙ sym h.starts_same;
        listing_same = k.listing_same ∙ sym h.listing_same;
        counts_same = k.counts_same ∙ sym h.counts_same;
      }

  settled : {end : Answer (List Pair)} → PairsAre end first second starts listing counts (once_answer end) first' second' starts' listing' counts'
      → PairsAre end first second starts listing counts (once_answer end) first₁ second₁ starts₁ listing₁ counts₁
      → SameFive first' second' starts' listing' counts' first₁ second₁ starts₁ listing₁ counts₁
  settled h k =
      record {
        first_same = k.first_is ∙ sym h.first_is;
        second_same = k.second_is ∙ sym h.second_is;
        starts_same = k.starts_are ∙ sym h.starts_are;
        listing_same = k.listing_is ∙ sym h.listing_is;
        counts_same = k.counts_are ∙ sym h.counts_are;
      }

module _ {words : List ℕ} {end : Answer (List Pair)} {first second starts listing counts out : List ℕ} {r r₁ : ℕ}
    {first' second' starts' listing' counts' out' first₁ second₁ starts₁ listing₁ counts₁ out₁ : List ℕ}
    (h : OnceReplies words end first second starts listing counts out r first' second' starts' listing' counts' out')
    (k : OnceReplies words end first second starts listing counts out r₁ first₁ second₁ starts₁ listing₁ counts₁ out₁) where
  pub once_one_outcome : (r ≡ r₁) × (out' ≡ out₁) × SameFive first' second' starts' listing' counts' first₁ second₁ starts₁ listing₁ counts₁
  once_one_outcome =
      let a = one_outcome h.replies k.replies in (
        a.0,
        a.1,
        by_size 1 (length out)
            (λ l. by_size grid_words (length words) (λ m. settled (h.called l m) (k.called l m)) (λ m. untouched (h.few m) (k.few m)))
            (λ l. untouched (h.short l) (k.short l)),
      )
