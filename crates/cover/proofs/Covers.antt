-- The covering rule covers: where a fine coordinate of a point is within 3 units of the exact one on each axis, the cell of that point is listed. The
-- point is given by the whole weights v and w of the two ends. Assumes nothing.
use mathlib.Core.Path.{◌≡◌, sym, subst}
use mathlib.Core.Logic.{inl, inr}
use mathlib.Core.Bool.{Bool, true, false, not}
use Prim.Native.Nat.{ℕ, ◌+◌, ◌-◌, ◌*◌, ◌≤◌, ◌<◌, min, max}
use native.Mathlib.Nat.{le_trans, le_of_eq, le_of_lt, mul-le-mul_right, mul-le-mul_left, le_of_mul-le-mul_right, max-eq_left, max-eq_right, min-eq_left, min-eq_right}
use native.Mathlib.Omega.{arith}
use lib.Dec.{T, leb, leb→le, nleb→lt, lit<}
use Rattle.slices.proofs.Laws.{le_or}
use Rattle.cover.specs.declared.Ends.{Ends}
use Rattle.cover.specs.Rule.{fine_cell, bottom_of, top_of, span_of, slope_of, aside_of, left_of, right_of, first_row, last_row, near_in, far_in, first_col, last_col}
use Rattle.cover.proofs.Slope.{aside_under, aside_over}
use Rattle.cover.proofs.Sides.{top_before, top_last, left_going_right, right_going_right, left_going_left, right_going_left, first_level, last_level, first_rising, last_rising, cell_mono}

-- ---- what is listed, and what is near

-- the rule lists the column c of the row r
pub record Listed (cols rows : ℕ) (e : Ends) (r c : ℕ) : Type 0 where
  pub row_from : first_row rows e ≤ r
  pub row_to : r ≤ last_row rows e
  pub col_from : first_col cols rows e r ≤ c
  pub col_to : c ≤ last_col cols rows e r

-- g is within 3 of (v * a + w * b) / (v + w), and between a and b
pub record At (v w a b g : ℕ) : Type 0 where
  pub over : g * (v + w) ≤ v * a + w * b + 3 * (v + w)
  pub under : v * a + w * b ≤ (g + 3) * (v + w)
  pub from : min a b ≤ g
  pub to : g ≤ max a b

-- ---- the heights

module _ (v w a b g : ℕ) (Q : 0 < v + w) (p : At v w a b g) (up : a ≤ b) where
  above_start : a * (v + w) ≤ v * a + w * b
  above_start = omega (arith, mul-le-mul_left w up)

  below_end : v * a + w * b ≤ b * (v + w)
  below_end = omega (arith, mul-le-mul_left v up)

  less_three : (z : ℕ) → z ≤ g → (z - 3) * (v + w) ≤ v * a + w * b
  less_three z h = go (leb 3 z) (leb→le 3 z) (nleb→lt 3 z)
    where
      some : (k : ℕ) → z ≡ k + 3 → k * (v + w) ≤ v * a + w * b
      some k e = let h' : k + 3 ≤ g = omega arith in omega (arith, mul-le-mul_right (v + w) h', p.over)

      go : (t : Bool) → (T t → 3 ≤ z) → (T (not t) → z < 3) → (z - 3) * (v + w) ≤ v * a + w * b
      go true x y = let x' = x tt in some (z - 3) (omega arith)
      go false x y = let y' = y tt in let k : z - 3 ≡ 0 = omega arith in rw k (omega arith)

  more_three : (z : ℕ) → g ≤ z → v * a + w * b ≤ (z + 3) * (v + w)
  more_three z h = omega (arith, mul-le-mul_right (v + w) h, p.under)

  -- the height above the start, times v + w, is w * (b - a)
  rise : (d : ℕ) → b ≡ a + d → v * a + w * b ≡ a * (v + w) + w * d
  rise d e = rw e (omega arith)

  risen : (y : ℕ) → a ≤ y → y * (v + w) ≤ v * a + w * b → (y - a) * (v + w) ≤ w * (b - a)
  risen y h l = go (y - a) (b - a) (omega arith) (omega arith)
    where
      go : (k d : ℕ) → y ≡ a + k → b ≡ a + d → k * (v + w) ≤ w * d
      go k d e e' = let l' : (a + k) * (v + w) ≤ v * a + w * b = rw e at l in omega (arith, rise d e')

  fallen : (y : ℕ) → v * a + w * b ≤ y * (v + w) → w * (b - a) ≤ (y - a) * (v + w)
  fallen y l = go (leb a y) (leb→le a y) (nleb→lt a y)
    where
      some : (k d : ℕ) → y ≡ a + k → b ≡ a + d → w * d ≤ k * (v + w)
      some k d e e' = let l' : v * a + w * b ≤ (a + k) * (v + w) = rw e at l in omega (arith, rise d e')

      none : (d : ℕ) → b ≡ a + d → y < a → w * d ≤ (y - a) * (v + w)
      none d e' h = omega (arith, rise d e', mul-le-mul_right (v + w) (le_of_lt h))

      go : (t : Bool) → (T t → a ≤ y) → (T (not t) → y < a) → w * (b - a) ≤ (y - a) * (v + w)
      go true x z = let x' = x tt in some (y - a) (b - a) (omega arith) (omega arith)
      go false x z = none (b - a) (omega arith) (z tt)

max_by : (P : ℕ → Type 0) (x y : ℕ) → P x → P y → P (max x y)
max_by P x y p q = go (leb x y) (leb→le x y) (nleb→lt x y)
  where
    go : (t : Bool) → (T t → x ≤ y) → (T (not t) → y < x) → P (max x y)
    go true h k = subst P (sym (max-eq_right (h tt))) q
    go false h k = subst P (sym (max-eq_left (le_of_lt (k tt)))) p

min_by : (P : ℕ → Type 0) (x y : ℕ) → P x → P y → P (min x y)
min_by P x y p q = go (leb x y) (leb→le x y) (nleb→lt x y)
  where
    go : (t : Bool) → (T t → x ≤ y) → (T (not t) → y < x) → P (min x y)
    go true h k = subst P (sym (min-eq_left (h tt))) p
    go false h k = subst P (sym (min-eq_right (le_of_lt (k tt)))) q

-- ---- the theorem

module _ (cols rows : ℕ) (e : Ends) (v w gx gy : ℕ) (Q : 0 < v + w) (up : e.from_y ≤ e.to_y) (tall : e.to_y ≤ 4294967296)
    (px : At v w e.from_x e.to_x gx) (py : At v w e.from_y e.to_y gy) where
  abbrev row : ℕ
  row = fine_cell rows gy

  abbrev last : ℕ
  last = last_row rows e

  low_height : bottom_of e row * (v + w) ≤ v * e.from_y + w * e.to_y
  unfolding bottom_of
  low_height =
      max_by (λ (z : ℕ). z * (v + w) ≤ v * e.from_y + w * e.to_y) (row * 1048576 - 3) e.from_y
      (less_three v w e.from_y e.to_y gy Q py up (row * 1048576) (omega arith))
      (above_start v w e.from_y e.to_y gy Q py up)

  high_height : v * e.from_y + w * e.to_y ≤ top_of e last row * (v + w)
  high_height = elim (le_or last row) [
    | inl h ↦ rw (top_last e last row h) (below_end v w e.from_y e.to_y gy Q py up)
    | inr h ↦ rw (top_before e last row h)
        (min_by (λ (z : ℕ). v * e.from_y + w * e.to_y ≤ z * (v + w)) ((row + 1) * 1048576 + 3) e.to_y
        (more_three v w e.from_y e.to_y gy Q py up ((row + 1) * 1048576) (omega arith))
        (below_end v w e.from_y e.to_y gy Q py up))
  ]

  not_below_start : e.from_y ≤ bottom_of e row
  unfolding bottom_of
  not_below_start = omega arith

  not_above_end : top_of e last row ≤ e.to_y
  not_above_end = elim (le_or last row) [
    | inl h ↦ rw (top_last e last row h) (omega arith)
    | inr h ↦ rw (top_before e last row h) (omega arith)
  ]

  module _ (steep : e.from_y < e.to_y) where
    near_under : aside_of e (bottom_of e row) * (v + w) ≤ w * span_of e
    unfolding aside_of slope_of
    near_under =
        aside_under 4294967296 (span_of e) (e.to_y - e.from_y) (bottom_of e row - e.from_y) (v + w) w (omega arith) (lit< tt)
        (risen v w e.from_y e.to_y gy Q py up (bottom_of e row) not_below_start low_height)

    far_over : w * span_of e ≤ (aside_of e (top_of e last row) + 2) * (v + w)
    unfolding aside_of slope_of
    far_over =
        let k = not_above_end in
        aside_over 4294967296 (span_of e) (e.to_y - e.from_y) (top_of e last row - e.from_y) (v + w) w (omega arith) (lit< tt) (omega arith)
        (fallen v w e.from_y e.to_y gy Q py up (top_of e last row) high_height)

    right_low : (a b s d : ℕ) → b ≡ a + d → v * a + w * b ≤ (gx + 3) * (v + w) → s * (v + w) ≤ w * d → a + s ≤ gx + 3
    right_low a b s d k h l =
        let h' : v * a + w * (a + d) ≤ (gx + 3) * (v + w) = rw k at h in
        let z : (a + s) * (v + w) ≤ (gx + 3) * (v + w) = omega arith in
        le_of_mul-le-mul_right z Q

    right_high : (a b s d : ℕ) → b ≡ a + d → gx * (v + w) ≤ v * a + w * b + 3 * (v + w) → w * d ≤ (s + 2) * (v + w) → gx ≤ a + s + 5
    right_high a b s d k h l =
        let h' : gx * (v + w) ≤ v * a + w * (a + d) + 3 * (v + w) = rw k at h in
        let z : gx * (v + w) ≤ (a + s + 5) * (v + w) = omega arith in
        le_of_mul-le-mul_right z Q

    left_low : (a b s d : ℕ) → a ≡ b + d → v * a + w * b ≤ (gx + 3) * (v + w) → w * d ≤ (s + 2) * (v + w) → a ≤ gx + s + 5
    left_low a b s d k h l =
        let h' : v * (b + d) + w * b ≤ (gx + 3) * (v + w) = rw k at h in
        let z : (b + d) * (v + w) ≤ (gx + s + 5) * (v + w) = omega arith in
        le_trans (le_of_eq k) (le_of_mul-le-mul_right z Q)

    left_high : (a b s d : ℕ) → a ≡ b + d → gx * (v + w) ≤ v * a + w * b + 3 * (v + w) → s * (v + w) ≤ w * d → gx + s ≤ a + 3
    left_high a b s d k h l =
        let h' : gx * (v + w) ≤ v * (b + d) + w * b + 3 * (v + w) = rw k at h in
        let z : (gx + s) * (v + w) ≤ (b + d + 3) * (v + w) = omega arith in
        let z' : gx + s ≤ b + d + 3 = le_of_mul-le-mul_right z Q in
        omega arith

    low_side : left_of e (near_in e row) (far_in rows e row) ≤ gx
    low_side = elim (le_or e.from_x e.to_x) [
      | inl h ↦
          let z = right_low e.from_x e.to_x (near_in e row) (span_of e) (omega arith) px.under near_under in
          rw (left_going_right e (near_in e row) (far_in rows e row) h) (let f = px.from in omega arith)
      | inr h ↦
          let z = left_low e.from_x e.to_x (far_in rows e row) (span_of e) (omega arith) px.under far_over in
          rw (left_going_left e (near_in e row) (far_in rows e row) h) (let f = px.from in omega arith)
    ]

    high_side : gx ≤ right_of e (near_in e row) (far_in rows e row)
    high_side = elim (le_or e.from_x e.to_x) [
      | inl h ↦
          let z = right_high e.from_x e.to_x (far_in rows e row) (span_of e) (omega arith) px.over far_over in
          rw (right_going_right e (near_in e row) (far_in rows e row) h) (let f = px.to in omega arith)
      | inr h ↦
          let z = left_high e.from_x e.to_x (near_in e row) (span_of e) (omega arith) px.over near_under in
          rw (right_going_left e (near_in e row) (far_in rows e row) h) (let f = px.to in omega arith)
    ]

  steep_of : first_row rows e < last → e.from_y < e.to_y
  steep_of h = omega arith

  column_from : first_col cols rows e row ≤ fine_cell cols gx
  column_from = elim (le_or last (first_row rows e)) [
    | inl h ↦ rw (first_level cols rows e row h) (cell_mono cols (min e.from_x e.to_x) gx px.from)
    | inr h ↦ rw (first_rising cols rows e row h) (cell_mono cols (left_of e (near_in e row) (far_in rows e row)) gx (low_side (steep_of h)))
  ]

  column_to : fine_cell cols gx ≤ last_col cols rows e row
  column_to = elim (le_or last (first_row rows e)) [
    | inl h ↦ rw (last_level cols rows e row h) (cell_mono cols gx (max e.from_x e.to_x) px.to)
    | inr h ↦ rw (last_rising cols rows e row h) (cell_mono cols gx (right_of e (near_in e row) (far_in rows e row)) (high_side (steep_of h)))
  ]

  pub covers : Listed cols rows e row (fine_cell cols gx)
  covers =
      record {
        row_from = cell_mono rows e.from_y gy (let f = py.from in omega arith);
        row_to = cell_mono rows gy e.to_y (let f = py.to in omega arith);
        col_from = column_from;
        col_to = column_to;
      }
