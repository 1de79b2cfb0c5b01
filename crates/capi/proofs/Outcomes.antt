-- Any two outcomes that the promise of an exported function admits are identical: its number, `out`, and every slice that it is lent to write,
-- also where `out` is short, words are too few to say a grid or a number names nothing. One that is lent nothing to write but `out` promises `Replies`, as the functions of
-- `replies` do, and `one_outcome` there says it. Assumes nothing.
use mathlib.Core.Path.{◌≡◌, sym, ◌∙◌}
use mathlib.Core.List.{List}
use Prim.Native.Nat.{ℕ, ◌≤◌, ◌<◌}
use lib.Ieee.{Float}
use lib.ListN.{length}
use Rattle.grid.specs.Domain.{Lines}
use Rattle.grid.specs.declared.Grid.{Grid}
use Rattle.grid.specs.Words.{grid_words}
use Rattle.tables.specs.Tables.{Tables}
use Rattle.turns.specs.Pushes.{Outcome}
use Rattle.walk.proofs.Outcomes as walk
use Rattle.build.proofs.Theorems as build
use Rattle.own.proofs.ManyEnds as own
use Rattle.visit.proofs.Outcomes as visit
use Rattle.replies.proofs.Outcomes.{one_outcome}
use Rattle.replies.proofs.Handing.{by_size}
use Rattle.capi.specs.Unknown.{last_sizing, last_mode}
use Rattle.capi.specs.Lent.{WalkReplies, OwnersReplies, BuildReplies, BatchReplies}

-- and words say a grid, or are too few
by_words : (n : ℕ) (out words : List ℕ) {P : Type 0} → (n ≤ length out → grid_words ≤ length words → P) → (length out < n → P) → (length words < grid_words → P) → P
by_words n out words asked short few = by_size n (length out) (λ l. by_size grid_words (length words) (asked l) few) short

pub walk_one_outcome : {words : List ℕ} {mode : ℕ} {o : Outcome} {scratch scratch' scratch₁ out out' out₁ : List ℕ} {r r₁ : ℕ}
    → WalkReplies words mode o scratch out r scratch' out' → WalkReplies words mode o scratch out r₁ scratch₁ out₁
    → (r ≡ r₁) × (out' ≡ out₁) × (scratch' ≡ scratch₁)
walk_one_outcome {words} {mode} {out = out} h k =
    let a = one_outcome h.replies k.replies in (
      a.0,
      a.1,
      by_words 1 out words
          (λ l m. by_size mode last_mode (λ n. (walk.one_outcome (h.called l m n) (k.called l m n)).1) (λ n. h.unwalked n ∙ sym (k.unwalked n)))
          (λ l. h.short l ∙ sym (k.short l)) (λ m. h.few m ∙ sym (k.few m)),
    )

pub owners_one_outcome : {words : List ℕ} {g : Grid} {xs ys : List Float} {answers answers' answers₁ out out' out₁ : List ℕ} {r r₁ : ℕ}
    → OwnersReplies words g xs ys answers out r answers' out' → OwnersReplies words g xs ys answers out r₁ answers₁ out₁
    → (r ≡ r₁) × (out' ≡ out₁) × (answers' ≡ answers₁)
owners_one_outcome {words} {out = out} h k =
    let a = one_outcome h.replies k.replies in (
      a.0,
      a.1,
      by_words 1 out words (λ l m. (own.one_outcome (h.called l m) (k.called l m)).1) (λ l. h.short l ∙ sym (k.short l)) (λ m. h.few m ∙ sym (k.few m)),
    )

pub build_one_outcome : {sizing mode : ℕ} {ls : Lines} {o o' o₁ t t' t₁ gs gs' gs₁ s s' s₁ out out' out₁ : List ℕ} {r r₁ : ℕ}
    → BuildReplies sizing mode ls o t gs s out r o' t' gs' s' out' → BuildReplies sizing mode ls o t gs s out r₁ o₁ t₁ gs₁ s₁ out₁
    → (r ≡ r₁) × (out' ≡ out₁) × (o' ≡ o₁) × (t' ≡ t₁) × (gs' ≡ gs₁) × (s' ≡ s₁)
build_one_outcome {sizing} {mode} {out = out} h k =
    let a = one_outcome h.replies k.replies in
    let lent =
    by_size 8 (length out)
    (λ l.
    by_size sizing last_sizing
    (λ n.
    by_size mode last_mode
    (λ m.
    let b = build.one_outcome (h.called l n m) (k.called l n m) in
    (b.offsets, b.items, b.globals, b.scratch))
    (λ m. alike (h.unwalked m) (k.unwalked m)))
    (λ n. alike (h.unknown n) (k.unknown n)))
    (λ l. alike (h.short l) (k.short l)) in
    (a.0, a.1, lent.0, lent.1, lent.2, lent.3)
  where
    alike : {o o' o₁ t t' t₁ gs gs' gs₁ s s' s₁ : List ℕ} → (o' ≡ o) × (t' ≡ t) × (gs' ≡ gs) × (s' ≡ s) → (o₁ ≡ o) × (t₁ ≡ t) × (gs₁ ≡ gs) × (s₁ ≡ s)
        → (o' ≡ o₁) × (t' ≡ t₁) × (gs' ≡ gs₁) × (s' ≡ s₁)
    alike x y = (x.0 ∙ sym y.0, x.1 ∙ sym y.1, x.2 ∙ sym y.2, x.3 ∙ sym y.3)

pub batch_one_outcome : {words : List ℕ} {ls : Lines} {g : Grid} {t : Tables} {b : ℕ} {first first' first₁ second second' second₁ out out' out₁ : List ℕ} {r r₁ : ℕ}
    → BatchReplies words ls g t b first second out r first' second' out' → BatchReplies words ls g t b first second out r₁ first₁ second₁ out₁
    → (r ≡ r₁) × (out' ≡ out₁) × (first' ≡ first₁) × (second' ≡ second₁)
batch_one_outcome {words} {out = out} h k =
    let a = one_outcome h.replies k.replies in (
      a.0,
      a.1,
      by_words 3 out words (λ l m. (visit.one_outcome (h.called l m) (k.called l m)).1) (λ l. (h.short l).0 ∙ sym (k.short l).0) (λ m. (h.few m).0 ∙ sym (k.few m).0),
      by_words 3 out words (λ l m. (visit.one_outcome (h.called l m) (k.called l m)).2) (λ l. (h.short l).1 ∙ sym (k.short l).1) (λ m. (h.few m).1 ∙ sym (k.few m).1),
    )
