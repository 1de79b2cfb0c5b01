-- Any two outcomes that the promise of a reply admits are identical: its number, and `out`. Assumes nothing.
use mathlib.Core.Path.{◌≡◌, sym, ◌∙◌}
use mathlib.Core.List.{List}
use Prim.Native.Nat.{ℕ}
use Rattle.replies.specs.Replies.{Reply, Replies}

pub one_outcome : {n : ℕ} {a : Reply} {out out' out₁ : List ℕ} {r r₁ : ℕ} → Replies n a out r out' → Replies n a out r₁ out₁ → (r ≡ r₁) × (out' ≡ out₁)
one_outcome h k = (h.number ∙ sym k.number, h.words ∙ sym k.words)
