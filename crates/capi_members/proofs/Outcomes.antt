-- Any two outcomes that the promise of an exported function admits are identical: its number, `out`, and every slice that it is lent to write, also where
-- `out` is short. Assumes nothing.
use mathlib.Core.Path.{◌≡◌, sym, ◌∙◌}
use mathlib.Core.List.{List}
use Prim.Native.Nat.{ℕ}
use lib.Ieee.{Float}
use lib.ListN.{length}
use Rattle.grid.specs.Domain.{Lines}
use Rattle.wkb.proofs.Outcomes as wkb
use Rattle.members.proofs.Outcomes as members
use Rattle.replies.proofs.Outcomes.{one_outcome}
use Rattle.replies.proofs.Handing.{by_size}
use Rattle.capi_members.specs.Lent.{ReadReplies, MultiReplies, WriteReplies, LineReplies}

pub read_one_outcome : {bytes : List ℕ} {x y x' x₁ y' y₁ : List Float} {out out' out₁ : List ℕ} {r r₁ : ℕ}
    → ReadReplies bytes x y out r x' y' out' → ReadReplies bytes x y out r₁ x₁ y₁ out₁
    → (r ≡ r₁) × (out' ≡ out₁) × (x' ≡ x₁) × (y' ≡ y₁)
read_one_outcome {out = out} h k =
    let a = one_outcome h.replies k.replies in (
      a.0,
      a.1,
      by_size 1 (length out) (λ l. (wkb.one_outcome (h.called l) (k.called l)).1) (λ l. (h.short l).0 ∙ sym (k.short l).0),
      by_size 1 (length out) (λ l. (wkb.one_outcome (h.called l) (k.called l)).2) (λ l. (h.short l).1 ∙ sym (k.short l).1),
    )

pub multi_one_outcome : {bytes x y l x' x₁ y' y₁ l' l₁ out out' out₁ : List ℕ} {r r₁ : ℕ}
    → MultiReplies bytes x y l out r x' y' l' out' → MultiReplies bytes x y l out r₁ x₁ y₁ l₁ out₁
    → (r ≡ r₁) × (out' ≡ out₁) × (x' ≡ x₁) × (y' ≡ y₁) × (l' ≡ l₁)
multi_one_outcome {out = out} h k =
    let a = one_outcome h.replies k.replies in (
      a.0,
      a.1,
      by_size 2 (length out) (λ l. (wkb.multi_outcome (h.called l) (k.called l)).1) (λ l. (h.short l).0 ∙ sym (k.short l).0),
      by_size 2 (length out) (λ l. (wkb.multi_outcome (h.called l) (k.called l)).2) (λ l. (h.short l).1 ∙ sym (k.short l).1),
      by_size 2 (length out) (λ l. (wkb.multi_outcome (h.called l) (k.called l)).3) (λ l. (h.short l).2 ∙ sym (k.short l).2),
    )

pub write_one_outcome : {x y l bytes bytes' bytes₁ out out' out₁ : List ℕ} {r r₁ : ℕ}
    → WriteReplies x y l bytes out r bytes' out' → WriteReplies x y l bytes out r₁ bytes₁ out₁ → (r ≡ r₁) × (out' ≡ out₁) × (bytes' ≡ bytes₁)
write_one_outcome {out = out} h k =
    let a = one_outcome h.replies k.replies in
    (a.0, a.1, by_size 1 (length out) (λ l. (members.written_outcome (h.called l) (k.called l)).1) (λ l. h.short l ∙ sym (k.short l)))

pub line_one_outcome : {x y l out out' out₁ : List ℕ} {ls ls' ls₁ : Lines} {r r₁ : ℕ}
    → LineReplies x y l ls out r ls' out' → LineReplies x y l ls out r₁ ls₁ out₁ → (r ≡ r₁) × (out' ≡ out₁) × (ls' ≡ ls₁)
line_one_outcome {out = out} h k =
    let a = one_outcome h.replies k.replies in
    (a.0, a.1, by_size 1 (length out) (λ l. (members.lined_outcome (h.called l) (k.called l)).1) (λ l. h.short l ∙ sym (k.short l)))
