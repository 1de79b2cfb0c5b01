-- Any two outcomes that the promise of `mt_next_unchecked` admits are identical: the number, `out` and both outputs, also where `out` is short or words
-- are too few to say a grid. Assumes nothing.
use mathlib.Core.Path.{◌≡◌, sym, ◌∙◌}
use mathlib.Core.List.{List}
use Prim.Native.Nat.{ℕ}
use lib.ListN.{length}
use Rattle.grid.specs.Domain.{Lines}
use Rattle.grid.specs.Words.{grid_words}
use Rattle.tables.specs.Tables.{Tables}
use Rattle.resume.specs.declared.Cursor.{Cursor}
use Rattle.replies.proofs.Outcomes.{one_outcome}
use Rattle.replies.proofs.Handing.{by_size}
use Rattle.capi_resume.specs.Lent.{NextReplies}

module _ {words : List ℕ} {ls : Lines} {t : Tables} {c : Cursor} {first second out : List ℕ} {r r₁ : ℕ} {first' second' out' first₁ second₁ out₁ : List ℕ}
    (h : NextReplies words ls t c first second out r first' second' out') (k : NextReplies words ls t c first second out r₁ first₁ second₁ out₁) where
  pub next_one_outcome : (r ≡ r₁) × (out' ≡ out₁) × (first' ≡ first₁) × (second' ≡ second₁)
  next_one_outcome =
      let a = one_outcome h.replies k.replies in (
        a.0,
        a.1,
        by_size 5 (length out)
            (λ l. by_size grid_words (length words) (λ m. (h.called l m).first_is ∙ sym (k.called l m).first_is) (λ m. (h.few m).0 ∙ sym (k.few m).0))
            (λ l. (h.short l).0 ∙ sym (k.short l).0),
        by_size 5 (length out)
            (λ l. by_size grid_words (length words) (λ m. (h.called l m).second_is ∙ sym (k.called l m).second_is) (λ m. (h.few m).1 ∙ sym (k.few m).1))
            (λ l. (h.short l).1 ∙ sym (k.short l).1),
      )
