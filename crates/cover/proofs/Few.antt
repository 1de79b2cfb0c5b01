-- How many cells a line has: at most two for each row and each column. A line in two rows has at most all columns in each. One that is in three rows or more
-- is at least a cell high, so the six units of height that two rows share move it less than 24,577 units sideways, and the next row begins at most one
-- column before the last column of this one. Assumes nothing.
use mathlib.Core.Path.{◌≡◌, refl, ap, ◌∙◌, subst}
use mathlib.Core.Logic.{inl, inr}
use Prim.Native.Nat.{ℕ, zero, suc, ◌+◌, ◌-◌, ◌*◌, ◌/◌, ◌≤◌, ◌<◌, min, max}
use native.Mathlib.Nat.{mul-le-mul_right, mul-le-mul_left, div-mul-le_self}
use native.Mathlib.Omega.{arith}
use lib.ListN.{length, length-append}
use Rattle.slices.proofs.Laws.{le_or}
use Rattle.cover.specs.declared.Ends.{Ends}
use Rattle.cover.specs.Rule.{fine_cell, bottom_of, top_of, span_of, slope_of, aside_of, left_of, right_of, first_row, last_row, near_in, far_in, first_col, last_col, row_cells, rows_from, cells_between}
use Rattle.cover.specs.Inside.{Small}
use Rattle.cover.proofs.Growing.{length_run}
use Rattle.cover.proofs.Sides.{top_before, left_going_right, right_going_right, left_going_left, right_going_left, first_rising, last_rising, cell_mono, first_in, last_in}

-- ---- a sideways move, as the height grows
move_on : (u v s : ℕ) → u ≤ v → u * s / 4294967296 ≤ v * s / 4294967296
move_on u v s h = let k : u * s ≤ v * s = mul-le-mul_right s h in omega arith

move_six : (u v s : ℕ) → u ≤ v + 6 → s ≤ 17592186044416 → u * s / 4294967296 ≤ v * s / 4294967296 + 24577
move_six u v s h l = let k : u * s ≤ (v + 6) * s = mul-le-mul_right s h in omega arith

slope_small : (dx dy s : ℕ) → s * dy ≤ dx * 4294967296 → dx < 4294967296 → 1048576 ≤ dy → s ≤ 17592186044416
slope_small dx dy s h l k = let a : s * 1048576 ≤ s * dy = mul-le-mul_left s k in omega arith

less_six : (x y a : ℕ) → x ≤ y + 6 → x - a ≤ (y - a) + 6
less_six x y a h = omega arith

less_mono : (x y a : ℕ) → x ≤ y → x - a ≤ y - a
less_mono x y a h = omega arith

low_high : (z a b : ℕ) → min (z + 3) b ≤ max (z - 3) a + 6
low_high z a b = omega arith

low_low : (z a : ℕ) → max (z - 3) a ≤ max (z + 1048576 - 3) a
low_low z a = omega arith

-- ---- cells of places that are near
cell_near : (n x y : ℕ) → x ≤ y + 1048576 → fine_cell n x ≤ fine_cell n y + 1
cell_near n x y h = omega arith

right_near : (a b u v : ℕ) → u ≤ v + 24577 → min (a + u + 5) b ≤ max (a + v - 3) a + 1048576
right_near a b u v h = omega arith

right_up : (a u v : ℕ) → u ≤ v → max (a + u - 3) a ≤ max (a + v - 3) a
right_up a u v h = omega arith

left_near : (a b u v : ℕ) → u ≤ v + 24577 → min (a + 3 - v) a ≤ max (a - (u + 5)) b + 1048576
left_near a b u v h = omega arith

left_down : (a u v : ℕ) → u ≤ v → min (a + 3 - v) a ≤ min (a + 3 - u) a
left_down a u v h = omega arith

length_row : (cols rows : ℕ) (e : Ends) (r : ℕ) → length (row_cells cols rows e r) ≡ last_col cols rows e r + 1 - first_col cols rows e r
unfolding row_cells
length_row cols rows e r = length_run (last_col cols rows e r + 1 - first_col cols rows e r) (r * cols + first_col cols rows e r)

module _ (cols rows : ℕ) (e : Ends) where
  abbrev rows_length : ℕ → ℕ → ℕ
  rows_length n r = length (rows_from n cols rows e r)

  length_more : (n r : ℕ) → rows_length (suc n) r ≡ last_col cols rows e r + 1 - first_col cols rows e r + rows_length n (r + 1)
  unfolding rows_from
  length_more n r = length-append (row_cells cols rows e r) (rows_from n cols rows e (r + 1)) ∙ ap (λ (z : ℕ). z + rows_length n (r + 1)) (length_row cols rows e r)

  length_none : (r : ℕ) → rows_length 0 r ≡ 0
  unfolding rows_from
  length_none r = refl

  -- each row has at most a grid's columns
  row_most : (n r : ℕ) → 0 < cols → rows_length n r ≤ n * cols
  row_most zero r C = let h = length_none r in omega arith
  row_most (suc n) r C =
      let h = length_more n r in
      let k = row_most n (r + 1) C in
      let l = last_in cols rows e C r in
      omega arith

-- ---- a line in three rows or more

module _ (cols rows : ℕ) (e : Ends) (small : Small e) (C : 0 < cols) (R : 0 < rows) (tall : first_row rows e + 2 ≤ last_row rows e) where
  abbrev last : ℕ
  last = last_row rows e

  high : 1048576 ≤ e.to_y - e.from_y
  high = omega (arith, tall)

  flat : slope_of e ≤ 17592186044416
  unfolding slope_of
  flat =
      slope_small (span_of e) (e.to_y - e.from_y) (span_of e * 4294967296 / (e.to_y - e.from_y))
      (div-mul-le_self (span_of e * 4294967296) (e.to_y - e.from_y)) (omega (arith, small)) high

  overlap : (r : ℕ) → r < last → top_of e last r - e.from_y ≤ (bottom_of e (r + 1) - e.from_y) + 6
  unfolding bottom_of
  overlap r h = rw (top_before e last r h) (less_six (min ((r + 1) * 1048576 + 3) e.to_y) (max ((r + 1) * 1048576 - 3) e.from_y) e.from_y (low_high ((r + 1) * 1048576) e.from_y e.to_y))

  rising : (r : ℕ) → bottom_of e r - e.from_y ≤ bottom_of e (r + 1) - e.from_y
  unfolding bottom_of
  rising r =
      less_mono (max (r * 1048576 - 3) e.from_y) (max ((r + 1) * 1048576 - 3) e.from_y) e.from_y
      (subst (λ (z : ℕ). max (r * 1048576 - 3) e.from_y ≤ max (z - 3) e.from_y) (next r) (low_low (r * 1048576) e.from_y))
    where
      next : (r : ℕ) → r * 1048576 + 1048576 ≡ (r + 1) * 1048576
      next r = omega arith

  far_next : (r : ℕ) → r < last → far_in rows e r ≤ near_in e (r + 1) + 24577
  unfolding aside_of
  far_next r h = move_six (top_of e last r - e.from_y) (bottom_of e (r + 1) - e.from_y) (slope_of e) (overlap r h) flat

  near_next : (r : ℕ) → near_in e r ≤ near_in e (r + 1)
  unfolding aside_of
  near_next r = move_on (bottom_of e r - e.from_y) (bottom_of e (r + 1) - e.from_y) (slope_of e) (rising r)

  crosses : first_row rows e < last
  crosses = omega (arith, tall)

  first_at : (r : ℕ) → first_col cols rows e r ≡ fine_cell cols (left_of e (near_in e r) (far_in rows e r))
  first_at r = first_rising cols rows e r crosses

  last_at : (r : ℕ) → last_col cols rows e r ≡ fine_cell cols (right_of e (near_in e r) (far_in rows e r))
  last_at r = last_rising cols rows e r crosses

  -- to the right
  module _ (way : e.from_x ≤ e.to_x) where
    last_next : (r : ℕ) → r < last → last_col cols rows e r ≤ first_col cols rows e (r + 1) + 1
    last_next r k =
        rw (last_at r, first_at (r + 1), right_going_right e (near_in e r) (far_in rows e r) way, left_going_right e (near_in e (r + 1)) (far_in rows e (r + 1)) way)
        (cell_near cols (min (e.from_x + far_in rows e r + 5) e.to_x) (max (e.from_x + near_in e (r + 1) - 3) e.from_x)
        (right_near e.from_x e.to_x (far_in rows e r) (near_in e (r + 1)) (far_next r k)))

    first_next : (r : ℕ) → first_col cols rows e r ≤ first_col cols rows e (r + 1)
    first_next r =
        rw (first_at r, first_at (r + 1), left_going_right e (near_in e r) (far_in rows e r) way, left_going_right e (near_in e (r + 1)) (far_in rows e (r + 1)) way)
        (cell_mono cols (max (e.from_x + near_in e r - 3) e.from_x) (max (e.from_x + near_in e (r + 1) - 3) e.from_x) (right_up e.from_x (near_in e r) (near_in e (r + 1)) (near_next r)))

    right_most : (n r : ℕ) → r + n ≤ last + 1 → rows_length cols rows e n r + first_col cols rows e r ≤ cols + 2 * n
    right_most zero r k =
        let a = length_none cols rows e r in
        let b = first_in cols rows e C r in
        omega arith
    right_most (suc zero) r k =
        let a = length_more cols rows e 0 r in
        let a' = length_none cols rows e (r + 1) in
        let b = first_in cols rows e C r in
        let c = last_in cols rows e C r in
        omega arith
    right_most (suc (suc n)) r k =
        let a = length_more cols rows e (suc n) r in
        let i = right_most (suc n) (r + 1) (omega arith) in
        let u = last_next r (omega arith) in
        let v = first_next r in
        omega arith

  -- to the left
  module _ (way : e.to_x < e.from_x) where
    next_first : (r : ℕ) → r < last → last_col cols rows e (r + 1) ≤ first_col cols rows e r + 1
    next_first r k =
        rw (last_at (r + 1), first_at r, right_going_left e (near_in e (r + 1)) (far_in rows e (r + 1)) way, left_going_left e (near_in e r) (far_in rows e r) way)
        (cell_near cols (min (e.from_x + 3 - near_in e (r + 1)) e.from_x) (max (e.from_x - (far_in rows e r + 5)) e.to_x)
        (left_near e.from_x e.to_x (far_in rows e r) (near_in e (r + 1)) (far_next r k)))

    next_last : (r : ℕ) → last_col cols rows e (r + 1) ≤ last_col cols rows e r
    next_last r =
        rw (last_at (r + 1), last_at r, right_going_left e (near_in e (r + 1)) (far_in rows e (r + 1)) way, right_going_left e (near_in e r) (far_in rows e r) way)
        (cell_mono cols (min (e.from_x + 3 - near_in e (r + 1)) e.from_x) (min (e.from_x + 3 - near_in e r) e.from_x) (left_down e.from_x (near_in e r) (near_in e (r + 1)) (near_next r)))

    left_most : (n r : ℕ) → r + n ≤ last + 1 → rows_length cols rows e n r ≤ last_col cols rows e r + 1 + 2 * n
    left_most zero r k = let a = length_none cols rows e r in omega arith
    left_most (suc zero) r k =
        let a = length_more cols rows e 0 r in
        let a' = length_none cols rows e (r + 1) in
        omega arith
    left_most (suc (suc n)) r k =
        let a = length_more cols rows e (suc n) r in
        let i = left_most (suc n) (r + 1) (omega arith) in
        let u = next_first r (omega arith) in
        let v = next_last r in
        omega arith

  tall_most : rows_length cols rows e (last + 1 - first_row rows e) (first_row rows e) ≤ cols + 2 * rows
  tall_most =
      let first = first_row rows e in
      let up_to : first + (last + 1 - first) ≤ last + 1 = omega (arith, tall) in
      let few : last + 1 - first ≤ rows = omega (arith, R) in
      elim (le_or e.from_x e.to_x) [
        | inl h ↦ let a = right_most h (last + 1 - first) first up_to in omega arith
        | inr h ↦
            let a = left_most h (last + 1 - first) first up_to in
            let b = last_in cols rows e C first in
            omega arith
      ]

-- ---- every line

pub cells_few : (cols rows : ℕ) (e : Ends) → Small e → 0 < cols → 0 < rows → length (cells_between cols rows e) ≤ 2 * cols + 2 * rows
unfolding cells_between
cells_few cols rows e small C R =
    let first = first_row rows e in
    let last = last_row rows e in
    elim (le_or (first + 2) last) [
      | inl h ↦ let a = tall_most cols rows e small C R h in omega arith
      | inr h ↦
          let n : last + 1 - first ≤ 2 = omega arith in
          let a = row_most cols rows e (last + 1 - first) first C in
          let b : (last + 1 - first) * cols ≤ 2 * cols = mul-le-mul_right cols n in
          omega arith
    ]
