-- The promise of the reader of a MultiLineString from its parts: after each refusal, and after members were read. Assumes nothing.
use Rattle.std.specs.Prelude.{Ok, Err}
use mathlib.Core.Path.{◌≡◌, refl, sym, ap, ◌∙◌}
use mathlib.Core.Bool.{true, false}
use mathlib.Core.List.{List, flatten}
use Prim.Native.Nat.{ℕ, ◌-◌, ◌≤◌}
use native.Mathlib.Omega.{arith}
use lib.Dec.{leb, eqb}
use lib.ListN.{length, replicate, length-map}
use borrow.Author.Tests.{leb-true, eqb-true}
use Rattle.refusals.specs.declared.Refusal.{Refusal}
use Rattle.refusals.specs.Refusals.{refusal, unless, Answer, refused, gives, ◌then◌, ◌into◌, answer_by, clears, left_in, zero_beyond}
use Rattle.refusals.proofs.Checks.{unless_fine, and_then_left, and_then_right}
use Rattle.refusals.proofs.Answers.{then_refused, then_fine}
use Rattle.refusals.proofs.Leaving.{left_same, left_zero, clearing_unless, clearing_then}
use Rattle.grid.specs.Domain.{count_check}
use Rattle.wkb.specs.Bytes.{Point}
use Rattle.wkb.specs.Multi.{starts_of, multi_check, chains_at, found_multi, pair_check, members_room_check, multi_outcome, multi_read_of, axis_left, lengths_left, MultiReadAs}
use Rattle.wkb.specs.Inside.{MultiAt, axes_at, counts_at}
use Rattle.wkb.proofs.Words.{Small}
use Rattle.wkb.proofs.Chains.{length_starts, chains_some}
use Rattle.wkb.proofs.Walks.{axes_x, axes_y, counts, length_chains}
use Rattle.wkb.proofs.MultiLineStrings.{multi_sound, multi_complete}

-- ---- an answer that goes on

module _ {A B : Type 0} (answer : Answer A) (next : A → Answer B) where
  into_refused : (r : Refusal) → answer ≡ refused r → (answer into next) ≡ refused r
  unfolding ◌into◌
  into_refused r e = rw e

  into_gives : (a : A) → answer ≡ gives a → (answer into next) ≡ next a
  unfolding ◌into◌
  into_gives a e = rw e

-- ---- the checks

pub pair_fine : (m n : ℕ) → pair_check m n ≡ (Ok tt) → m ≡ n
unfolding pair_check
pair_fine m n h = eqb-true m n (unless_fine _ _ _ h)

pub room_fine : (points members p m : ℕ) → members_room_check points members p m ≡ (Ok tt) → (p ≤ points) × (m ≤ members)
unfolding members_room_check
room_fine points members p m h =
    (leb-true p points (unless_fine _ _ _ (and_then_left _ _ h)), leb-true m members (unless_fine _ _ _ (and_then_right (unless (leb p points) 5 p) _ h)))

room_clears : (points members p m : ℕ) (r : Refusal) → members_room_check points members p m ≡ Err r → clears r.number ≡ true
unfolding members_room_check clears
room_clears points members p m r e = (clearing_then (clearing_unless (leb p points) 5 p refl) (clearing_unless (leb m members) 5 m refl)).says r e

pair_same : (m n : ℕ) (r : Refusal) → pair_check m n ≡ Err r → clears r.number ≡ false
unfolding pair_check clears
pair_same m n r e = (clearing_unless (eqb m n) 3 0 refl).says r e

pub count_same : (n : ℕ) (r : Refusal) → count_check n ≡ Err r → clears r.number ≡ false
unfolding count_check clears
count_same n r e = (clearing_unless (leb n 65536) 2 n refl).says r e

-- ---- the members that were found

-- m members with p points: they make p - m lines
pub record Lines (bs : List ℕ) (m p : ℕ) : Type 0 where
  pub found : found_multi bs ≡ gives (chains_at m 9 bs)
  pub points : length (flatten (chains_at m 9 bs)) ≡ p
  pub members : length (chains_at m 9 bs) ≡ m
  pub lines : length (starts_of (chains_at m 9 bs)) ≡ p - m

pub lines_found : {bs : List ℕ} {m p : ℕ} → MultiAt bs m p → Lines bs m p
unfolding found_multi
lines_found {bs} {m} {p} h =
    let n = length_chains bs m 9 in
    let l = length_starts (chains_at m 9 bs) (chains_some m 9 bs h.members.fine) in
    record {
      found = then_fine _ _ h.fine ∙ rw (← h.count);
      points = sym h.members.points;
      members = n;
      lines = omega (arith, h.members.points, l, n);
    }

-- ---- the promise

module _ (bs x₀ y₀ l₀ : List ℕ) (small : Small bs) where
  -- a refusal that is none of 4 to 7
  none : (r : Refusal) → multi_outcome (length x₀) (length y₀) (length l₀) bs ≡ refused r → clears r.number ≡ false → MultiReadAs bs x₀ y₀ l₀ (Err r) x₀ y₀ l₀
  unfolding multi_read_of axis_left lengths_left answer_by left_in
  none r e k = record {
    answer = rw e;
    in_x = rw e (sym (left_same 0 r x₀ k));
    in_y = rw e (sym (left_same 0 r y₀ k));
    in_lengths = rw e (sym (left_same 0 r l₀ k));
    only = λ pss. multi_sound bs pss small;
    every = multi_complete bs;
  }

  pub multi_lent : (r : Refusal) → pair_check (length x₀) (length y₀) ≡ Err r → MultiReadAs bs x₀ y₀ l₀ (Err r) x₀ y₀ l₀
  unfolding multi_outcome
  multi_lent r e = none r (into_refused _ _ r (then_refused _ _ r e)) (pair_same (length x₀) (length y₀) r e)

  module _ (h : pair_check (length x₀) (length y₀) ≡ (Ok tt)) where
    pub multi_none : (f : ℕ) → multi_check bs ≡ Err (refusal 11 f) → MultiReadAs bs x₀ y₀ l₀ (Err (refusal 11 f)) x₀ y₀ l₀
    unfolding multi_outcome found_multi clears
    multi_none f e = none (refusal 11 f) (into_refused _ _ _ (then_fine _ _ h ∙ then_refused _ _ _ e)) refl

    module _ {m p : ℕ} (l : Lines bs m p) where
      to_count : multi_outcome (length x₀) (length y₀) (length l₀) bs ≡ (count_check (p - m) then members_room_check (length x₀) (length l₀) p m then gives (chains_at m 9 bs))
      unfolding multi_outcome
      to_count = into_gives _ _ (chains_at m 9 bs) (then_fine _ _ h ∙ l.found) ∙ rw (l.lines, l.points, l.members)

      pub multi_many : (r : Refusal) → count_check (p - m) ≡ Err r → MultiReadAs bs x₀ y₀ l₀ (Err r) x₀ y₀ l₀
      multi_many r e = none r (to_count ∙ then_refused _ _ r e) (count_same (p - m) r e)

      module _ (few : count_check (p - m) ≡ (Ok tt)) where
        -- refusal 5: zero throughout
        pub multi_short : {x₁ y₁ l₁ : List ℕ} (r : Refusal) → members_room_check (length x₀) (length l₀) p m ≡ Err r
            → x₁ ≡ replicate (length x₀) 0 → y₁ ≡ replicate (length y₀) 0 → l₁ ≡ replicate (length l₀) 0 → MultiReadAs bs x₀ y₀ l₀ (Err r) x₁ y₁ l₁
        unfolding multi_read_of axis_left lengths_left answer_by left_in
        multi_short r e ex ey el =
            let o = to_count ∙ then_fine _ _ few ∙ then_refused _ _ r e in
            let k = room_clears (length x₀) (length l₀) p m r e in
            record {
              answer = rw o;
              in_x = rw o (ex ∙ sym (left_zero 0 r x₀ k));
              in_y = rw o (ey ∙ sym (left_zero 0 r y₀ k));
              in_lengths = rw o (el ∙ sym (left_zero 0 r l₀ k));
              only = λ pss. multi_sound bs pss small;
              every = multi_complete bs;
            }

        pub multi_all : {x₁ y₁ l₁ : List ℕ} → members_room_check (length x₀) (length l₀) p m ≡ (Ok tt) → x₁ ≡ zero_beyond 0 (length x₀) (axes_at 0 m 9 bs)
            → y₁ ≡ zero_beyond 0 (length y₀) (axes_at 8 m 9 bs) → l₁ ≡ zero_beyond 0 (length l₀) (counts_at m 9 bs) → MultiReadAs bs x₀ y₀ l₀ (Ok (record { points = p; members = m })) x₁ y₁ l₁
        unfolding multi_read_of axis_left lengths_left answer_by left_in
        multi_all e ex ey el =
            let o = to_count ∙ then_fine _ _ few ∙ then_fine _ _ e in
            record {
              answer = rw (o, l.points, l.members);
              in_x = rw (o, axes_x bs m 9) ex;
              in_y = rw (o, axes_y bs m 9) ey;
              in_lengths = rw (o, counts bs m 9) el;
              only = λ pss. multi_sound bs pss small;
              every = multi_complete bs;
            }

-- the coordinates are as many as the points
pub axes_room : {bs : List ℕ} {m p : ℕ} → Lines bs m p → (length (axes_at 0 m 9 bs) ≡ p) × (length (axes_at 8 m 9 bs) ≡ p)
axes_room {bs} {m} l = (
  sym (ap length (axes_x bs m 9)) ∙ length-map (flatten (chains_at m 9 bs)) (λ (q : Point). q.x) ∙ l.points,
  sym (ap length (axes_y bs m 9)) ∙ length-map (flatten (chains_at m 9 bs)) (λ (q : Point). q.y) ∙ l.points,
)
