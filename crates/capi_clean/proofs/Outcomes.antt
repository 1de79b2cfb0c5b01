-- Any two outcomes that the promise of the exported function admits are identical: its number, `out`, and the slices that it is lent to write, also
-- where `out` is short. Assumes nothing.
use mathlib.Core.Path.{◌≡◌, refl, sym, ◌∙◌}
use mathlib.Core.Bool.{Bool, true, false}
use mathlib.Core.List.{List}
use Prim.Native.Nat.{ℕ}
use lib.Dec.{leb}
use lib.ListN.{length}
use borrow.Author.Tests.{leb-true, leb-false}
use Rattle.clean.specs.Calls.{Outputs}
use Rattle.replies.proofs.Outcomes.{one_outcome}
use Rattle.capi_clean.specs.Lent.{CleanReplies}

pub clean_one_outcome : {x y l out out' out₁ : List ℕ} {o o' o₁ : Outputs} {r r₁ : ℕ} → CleanReplies x y l o out r o' out' → CleanReplies x y l o out r₁ o₁ out₁
    → (r ≡ r₁) × (out' ≡ out₁) × (o' ≡ o₁)
clean_one_outcome {out = out} {o' = o'} {o₁ = o₁} h k = let a = one_outcome h.replies k.replies in (a.0, a.1, go (leb 2 (length out)) refl)
  where
    go : (b : Bool) → leb 2 (length out) ≡ b → o' ≡ o₁
    go true e = let l = leb-true 2 (length out) e in (h.called l).left ∙ sym (k.called l).left
    go false e = let l = leb-false 2 (length out) e in h.short l ∙ sym (k.short l)
