-- Any two outcomes that the promise of an exported function admits are identical: its number, `out`, and every slice that it is lent to write, also where
-- `out` is short, words are too few to say a grid or a number names no mode of walk. Assumes nothing.
use mathlib.Core.Path.{◌≡◌, sym, ◌∙◌}
use mathlib.Core.List.{List}
use Prim.Native.Nat.{ℕ}
use lib.ListN.{length}
use Rattle.grid.specs.Domain.{Lines}
use Rattle.grid.specs.Words.{grid_words}
use Rattle.counts.proofs.AddLaws.{one_sum}
use Rattle.counts.proofs.Theorems.{one_count, one_tables}
use Rattle.replies.proofs.Outcomes.{one_outcome}
use Rattle.replies.proofs.Handing.{by_size}
use Rattle.capi.specs.Unknown.{last_mode}
use Rattle.capi_counts.specs.Lent.{CountReplies, AddReplies, TablesReplies}

-- two that are both as a third
alike : {a a' a₁ : List ℕ} → a' ≡ a → a₁ ≡ a → a' ≡ a₁
alike x y = x ∙ sym y

pub count_one_outcome : {words : List ℕ} {mode : ℕ} {ls : Lines} {o o' o₁ s s' s₁ out out' out₁ : List ℕ} {r r₁ : ℕ}
    → CountReplies words mode ls o s out r o' s' out' → CountReplies words mode ls o s out r₁ o₁ s₁ out₁ → (r ≡ r₁) × (out' ≡ out₁) × (o' ≡ o₁) × (s' ≡ s₁)
count_one_outcome {words} {mode} {out = out} h k =
    let a = one_outcome h.replies k.replies in
    let lent =
    by_size 2 (length out)
    (λ l.
    by_size grid_words (length words)
    (λ m.
    by_size mode last_mode (λ n. let b = one_count (h.called l m n) (k.called l m n) in (b.1, b.2)) (λ n. all (h.unwalked n) (k.unwalked n)))
    (λ m. all (h.few m) (k.few m)))
    (λ l. all (h.short l) (k.short l)) in
    (a.0, a.1, lent.0, lent.1)
  where
    all : {o o' o₁ s s' s₁ : List ℕ} → (o' ≡ o) × (s' ≡ s) → (o₁ ≡ o) × (s₁ ≡ s) → (o' ≡ o₁) × (s' ≡ s₁)
    all x y = (alike x.0 y.0, alike x.1 y.1)

pub add_one_outcome : {a a' a₁ b out out' out₁ : List ℕ} {r r₁ : ℕ} → AddReplies a b out r a' out' → AddReplies a b out r₁ a₁ out₁ → (r ≡ r₁) × (out' ≡ out₁) × (a' ≡ a₁)
add_one_outcome {out = out} h k =
    let a = one_outcome h.replies k.replies in
    (a.0, a.1, by_size 1 (length out) (λ l. (one_sum (h.called l) (k.called l)).1) (λ l. alike (h.short l) (k.short l)))

pub tables_one_outcome : {words : List ℕ} {mode : ℕ} {ls : Lines} {o o' o₁ t t' t₁ gs gs' gs₁ s s' s₁ out out' out₁ : List ℕ} {r r₁ : ℕ}
    → TablesReplies words mode ls o t gs s out r o' t' gs' s' out' → TablesReplies words mode ls o t gs s out r₁ o₁ t₁ gs₁ s₁ out₁
    → (r ≡ r₁) × (out' ≡ out₁) × (o' ≡ o₁) × (t' ≡ t₁) × (gs' ≡ gs₁) × (s' ≡ s₁)
tables_one_outcome {words} {mode} {out = out} h k =
    let a = one_outcome h.replies k.replies in
    let lent =
    by_size 2 (length out)
    (λ l.
    by_size grid_words (length words)
    (λ m. by_size mode last_mode (λ n. let b = one_tables (h.called l m n) (k.called l m n) in (b.1, b.2, b.3, b.4)) (λ n. all (h.unwalked n) (k.unwalked n))) (λ m. all (h.few m) (k.few m)))
    (λ l. all (h.short l) (k.short l)) in
    (a.0, a.1, lent.0, lent.1, lent.2, lent.3)
  where
    all : {o o' o₁ t t' t₁ gs gs' gs₁ s s' s₁ : List ℕ} → (o' ≡ o) × (t' ≡ t) × (gs' ≡ gs) × (s' ≡ s) → (o₁ ≡ o) × (t₁ ≡ t) × (gs₁ ≡ gs) × (s₁ ≡ s)
        → (o' ≡ o₁) × (t' ≡ t₁) × (gs' ≡ gs₁) × (s' ≡ s₁)
    all x y = (alike x.0 y.0, alike x.1 y.1, alike x.2 y.2, alike x.3 y.3)
