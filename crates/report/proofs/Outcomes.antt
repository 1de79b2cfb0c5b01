-- Any two outcomes that a promise admits are identical: the buffer, and the position after what was put there. Assumes nothing.
use mathlib.Core.Path.{◌≡◌, sym, ap, ◌∙◌}
use mathlib.Core.List.{List, ◌++◌}
use Prim.Native.Nat.{ℕ, ◌-◌}
use lib.ListN.{length, take, replicate}
use Rattle.report.specs.Pages.{Page, page, Puts, Prints}

-- of a line
pub one_outcome : {bs : List ℕ} {before : Page} {out out₁ : List ℕ} {at at₁ : ℕ}
    → Puts bs before (page out at) → Puts bs before (page out₁ at₁) → (at ≡ at₁) × (out ≡ out₁)
one_outcome h k = let e = h.is ∙ sym k.is in (ap (λ (p : Page). p.at) e, ap (λ (p : Page). p.bytes) e)

-- of a whole text
pub one_print : {text out out' out₁ : List ℕ} {r r₁ : ℕ} → Prints text out out' r → Prints text out out₁ r₁ → (r ≡ r₁) × (out' ≡ out₁)
one_print {text} {out} h k =
    let e = h.end ∙ sym k.end in
    (e, h.is ∙ ap (λ (n : ℕ). take (length out) text ++ replicate {A = ℕ} (length out - n) 0) e ∙ sym k.is)
