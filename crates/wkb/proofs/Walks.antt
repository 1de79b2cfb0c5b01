-- Laws of the two ways over the members of a MultiLineString: the look at all of them, and the reading of a slice, member by member; and what the
-- slices are to hold. Assumes nothing.
use Rattle.std.specs.Prelude.{Ok, Err}
use mathlib.Core.Path.{◌≡◌, refl, sym, ap, ◌∙◌}
use mathlib.Core.List.{List, [], ◌∷◌, ◌++◌, map, map-append, flatten}
use Prim.Native.Nat.{ℕ, zero, suc, ◌+◌, ◌*◌, ◌-◌, ◌≤◌, ◌<◌}
use native.Mathlib.Omega.{arith}
use lib.ListN.{length, length-append}
use Rattle.refusals.specs.Refusals.{refusal}
use Rattle.refusals.proofs.Checks.{and_then_refused, and_then_fine, and_then_left, and_then_right}
use Rattle.wkb.specs.declared.Order.{Order}
use Rattle.wkb.specs.Bytes.{Point}
use Rattle.wkb.specs.Reading.{order_at, count_at, line_at, end_at, line_check, end_check}
use Rattle.wkb.specs.Multi.{members_check, chains_at}
use Rattle.wkb.specs.Inside.{LineAt, MembersIn, numbers_at, axes_at, counts_at}
use Rattle.wkb.proofs.Axes.{length_points, axis_x, axis_y}
use Rattle.wkb.proofs.Fields.{LineFits, line_passed, end_right, end_more}

-- ---- one member more

end_is : (at n : ℕ) (bs : List ℕ) → n ≡ count_at at bs → end_at at bs ≡ at + 9 + 16 * n
unfolding end_at
end_is at n bs e = rw (← e)

pub length_line_at : (at : ℕ) (bs : List ℕ) → length (line_at at bs) ≡ count_at at bs
unfolding line_at
length_line_at at bs = length_points (order_at at bs) bs (count_at at bs) (at + 9)

module _ (m at : ℕ) (bs : List ℕ) where
  members_next : line_check at bs ≡ (Ok tt) → members_check (suc m) at bs ≡ members_check m (end_at at bs) bs
  unfolding members_check
  members_next h = and_then_fine _ _ h

  members_refused : (f : ℕ) → line_check at bs ≡ Err (refusal 11 f) → members_check (suc m) at bs ≡ Err (refusal 11 f)
  unfolding members_check
  members_refused f h = and_then_refused _ _ _ h

  pub members_line : members_check (suc m) at bs ≡ (Ok tt) → line_check at bs ≡ Ok tt
  unfolding members_check
  members_line h = and_then_left _ _ h

  pub members_rest : members_check (suc m) at bs ≡ (Ok tt) → members_check m (end_at at bs) bs ≡ Ok tt
  unfolding members_check
  members_rest h = and_then_right (line_check at bs) _ h

  points_next : length (flatten (chains_at (suc m) at bs)) ≡ count_at at bs + length (flatten (chains_at m (end_at at bs) bs))
  unfolding chains_at flatten
  points_next = length-append (line_at at bs) (flatten (chains_at m (end_at at bs) bs)) ∙ rw (length_line_at at bs)

-- ---- the look

-- of m members all before `at` are right, and hold so many points; `left` are left
pub record Passed (bs : List ℕ) (m at left points : ℕ) : Type 0 where
  pub same : members_check m 9 bs ≡ members_check left at bs
  pub total : length (flatten (chains_at m 9 bs)) ≡ points + length (flatten (chains_at left at bs))
  pub some : m ≤ points + left
  pub few : points ≤ at
  pub within : at ≤ length bs

pub passed_none : (bs : List ℕ) (m : ℕ) → 9 ≤ length bs → Passed bs m 9 m 0
passed_none bs m h = record { same = refl; total = omega arith; some = omega arith; few = omega arith; within = h }

module _ {bs : List ℕ} {m at left points : ℕ} (p : Passed bs m at left points) where
  pub passed_more : {o : Order} {n : ℕ} → 0 < left → LineAt bs at o n → Passed bs m (at + 9 + 16 * n) (left - 1) (points + n)
  passed_more {o} {n} h l =
      let k : left ≡ suc (left - 1) = omega arith in
      let e : end_at at bs ≡ at + 9 + 16 * n = end_is at n bs l.count in
      let next : members_check left at bs ≡ members_check (left - 1) (at + 9 + 16 * n) bs =
      ap (λ (i : ℕ). members_check i at bs) k ∙ members_next (left - 1) at bs l.fine ∙ ap (λ (i : ℕ). members_check (left - 1) i bs) e in
      let more : length (flatten (chains_at left at bs)) ≡ n + length (flatten (chains_at (left - 1) (at + 9 + 16 * n) bs)) =
      ap (λ (i : ℕ). length (flatten (chains_at i at bs))) k ∙ points_next (left - 1) at bs
      ∙ ap (λ (i : ℕ). i + length (flatten (chains_at (left - 1) (end_at at bs) bs))) (sym l.count)
      ∙ ap (λ (i : ℕ). n + length (flatten (chains_at (left - 1) i bs))) e in
      record {
        same = p.same ∙ next;
        total = omega (arith, p.total);
        some = omega (arith, p.some, l.some);
        few = omega (arith, p.few);
        within = l.within;
      }

  pub passed_fault : (f : ℕ) → 0 < left → line_check at bs ≡ Err (refusal 11 f) → members_check m 9 bs ≡ Err (refusal 11 f)
  passed_fault f h e =
      let k : left ≡ suc (left - 1) = omega arith in
      p.same ∙ ap (λ (i : ℕ). members_check i at bs) k ∙ members_refused (left - 1) at bs f e

  over : left ≤ 0 → members_check m 9 bs ≡ end_check at bs
  unfolding members_check
  over h = let z : left ≡ 0 = omega arith in p.same ∙ ap (λ (i : ℕ). members_check i at bs) z

  pub passed_over : left ≤ 0 → at < length bs → members_check m 9 bs ≡ Err (refusal 11 at)
  passed_over h l = over h ∙ end_more at bs l

  pub passed_all : left ≤ 0 → length bs ≤ at → MembersIn bs m points
  unfolding chains_at flatten
  passed_all h l =
      let z : left ≡ 0 = omega arith in
      let none : length (flatten (chains_at left at bs)) ≡ 0 = ap (λ (i : ℕ). length (flatten (chains_at i at bs))) z in
      record {
        fine = over h ∙ end_right at bs l;
        points = omega (arith, p.total);
        some = omega (arith, p.some);
        within = omega (arith, p.few, p.within);
      }

-- ---- the reading

-- the first of members that are right is right, and so are those after it
module _ (left at : ℕ) (bs : List ℕ) (h : 0 < left) (fine : members_check left at bs ≡ (Ok tt)) where
  pub left_line : LineFits at bs
  left_line = let k : left ≡ suc (left - 1) = omega arith in line_passed at bs (members_line (left - 1) at bs (rw k at fine))

  pub left_rest : (n : ℕ) → n ≡ count_at at bs → members_check (left - 1) (at + 9 + 16 * n) bs ≡ Ok tt
  left_rest n c =
      let k : left ≡ suc (left - 1) = omega arith in
      rw (← end_is at n bs c) (members_rest (left - 1) at bs (rw k at fine))

-- ---- what the slices are to hold

map_same : {A : Type 0} (xs : List A) → map (λ (a : A). a) xs ≡ xs
map_same [] = refl
map_same (x ∷ xs) = ap (λ l. x ∷ l) (map_same xs)

module _ (bs : List ℕ) where
  module _ (skip : ℕ) where
    pub axes_next : (left at : ℕ) {o : Order} {n : ℕ} → 0 < left → o ≡ order_at at bs → n ≡ count_at at bs
        → axes_at skip left at bs ≡ numbers_at o n (at + 9 + skip) bs ++ axes_at skip (left - 1) (at + 9 + 16 * n) bs
    unfolding axes_at
    axes_next zero at h e f = absurd (omega arith)
    axes_next (suc left) at {o} {n} h e f = let z : suc left - 1 ≡ left = omega arith in rw (z, ← end_is at n bs f, e, f)

    pub axes_over : (left at : ℕ) → left ≤ 0 → axes_at skip left at bs ≡ []
    unfolding axes_at
    axes_over zero at h = refl
    axes_over (suc left) at h = absurd (omega arith)

  pub counts_next : (left at : ℕ) {n : ℕ} → 0 < left → n ≡ count_at at bs → counts_at left at bs ≡ (n ∷ []) ++ counts_at (left - 1) (at + 9 + 16 * n) bs
  unfolding counts_at
  counts_next zero at h f = absurd (omega arith)
  counts_next (suc left) at {n} h f = let z : suc left - 1 ≡ left = omega arith in rw (z, ← end_is at n bs f, f)

  pub counts_over : (left at : ℕ) → left ≤ 0 → counts_at left at bs ≡ []
  unfolding counts_at
  counts_over zero at h = refl
  counts_over (suc left) at h = absurd (omega arith)

  -- the coordinates of the points, and the numbers of points of the members
  pub axes_x : (m at : ℕ) → map (λ (p : Point). p.x) (flatten (chains_at m at bs)) ≡ axes_at 0 m at bs
  unfolding chains_at axes_at flatten line_at
  axes_x zero at = refl
  axes_x (suc m) at =
      let o = order_at at bs in
      let n = count_at at bs in
      let e : at + 9 ≡ at + 9 + 0 = omega arith in
      map-append (λ (p : Point). p.x) (line_at at bs) (flatten (chains_at m (end_at at bs) bs))
      ∙ rw (axis_x o bs (λ (v : ℕ). v) n (at + 9), map_same (numbers_at o n (at + 9) bs), axes_x m (end_at at bs), ← e)

  pub axes_y : (m at : ℕ) → map (λ (p : Point). p.y) (flatten (chains_at m at bs)) ≡ axes_at 8 m at bs
  unfolding chains_at axes_at flatten line_at
  axes_y zero at = refl
  axes_y (suc m) at =
      let o = order_at at bs in
      let n = count_at at bs in
      map-append (λ (p : Point). p.y) (line_at at bs) (flatten (chains_at m (end_at at bs) bs))
      ∙ rw (axis_y o bs (λ (v : ℕ). v) n (at + 9), map_same (numbers_at o n (at + 9 + 8) bs), axes_y m (end_at at bs))

  pub counts : (m at : ℕ) → map length (chains_at m at bs) ≡ counts_at m at bs
  unfolding chains_at counts_at
  counts zero at = refl
  counts (suc m) at = rw (length_line_at at bs, counts m (end_at at bs))

  pub length_counts : (m at : ℕ) → length (counts_at m at bs) ≡ m
  unfolding counts_at
  length_counts zero at = refl
  length_counts (suc m) at = ap suc (length_counts m (end_at at bs))

  pub length_chains : (m at : ℕ) → length (chains_at m at bs) ≡ m
  unfolding chains_at
  length_chains zero at = refl
  length_chains (suc m) at = ap suc (length_chains m (end_at at bs))
