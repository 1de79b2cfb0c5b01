-- The cells of the rule as a list: what is listed is in it, it increases, and it stays in the grid. Assumes nothing.
use mathlib.Core.Path.{◌≡◌, sym, subst}
use mathlib.Core.Bool.{true, or-true}
use mathlib.Core.List.{List, [], ◌∷◌, ◌++◌, append-nil}
use Prim.Native.Nat.{ℕ, zero, suc, ◌+◌, ◌-◌, ◌*◌, ◌≤◌, ◌<◌}
use native.Mathlib.Nat.{add-zero, le_refl, mul-le-mul_right}
use native.Mathlib.Numerals.{add-one}
use native.Mathlib.Omega.{arith}
use lib.Dec.{eqb}
use Rattle.slices.specs.Lists.{elem, Below, Rising}
use Rattle.slices.proofs.Members.{elem_head, below_elem, elem_left, elem_right}
use Rattle.slices.proofs.Distinct.{rising_low}
use Rattle.cover.specs.declared.Ends.{Ends}
use Rattle.cover.specs.Rule.{run, first_row, last_row, first_col, last_col, row_cells, rows_from, cells_between}
use Rattle.cover.proofs.Sides.{first_in, last_in}
use Rattle.cover.proofs.Covers.{Listed}

-- ---- what is listed is in the list

elem_tail : (v x : ℕ) (xs : List ℕ) → elem v xs ≡ true → elem v (x ∷ xs) ≡ true
elem_tail v x xs h = rw h (or-true (eqb v x))

in_run : (n k i : ℕ) → i < n → elem (k + i) (run n k) ≡ true
unfolding run
in_run zero k i h = absurd (omega arith)
in_run (suc n) k zero h = subst (λ (v : ℕ). elem v (k ∷ run n (k + 1)) ≡ true) (sym (add-zero k)) (elem_head k (run n (k + 1)))
in_run (suc n) k (suc i) h =
    elem_tail (k + suc i) k (run n (k + 1)) (subst (λ (v : ℕ). elem v (run n (k + 1)) ≡ true) (next k i) (in_run n (k + 1) i (omega arith)))
  where
    next : (k i : ℕ) → k + 1 + i ≡ k + suc i
    next k i = omega arith

-- every cell of a grid is in the list of all
pub in_all : (n i : ℕ) → i < n → elem i (run n 0) ≡ true
in_all n i h = let e : 0 + i ≡ i = omega arith in subst (λ (v : ℕ). elem v (run n 0) ≡ true) e (in_run n 0 i h)

module _ (cols rows : ℕ) (e : Ends) where
  in_row : (r c : ℕ) → first_col cols rows e r ≤ c → c ≤ last_col cols rows e r → elem (r * cols + c) (row_cells cols rows e r) ≡ true
  unfolding row_cells
  in_row r c h k =
      let f = first_col cols rows e r in
      let s : r * cols + f + (c - f) ≡ r * cols + c = omega arith in
      subst (λ (v : ℕ). elem v (row_cells cols rows e r) ≡ true) s (in_run (last_col cols rows e r + 1 - f) (r * cols + f) (c - f) (omega arith))

  in_rows : (n r i x : ℕ) → i < n → elem x (row_cells cols rows e (r + i)) ≡ true → elem x (rows_from n cols rows e r) ≡ true
  unfolding rows_from
  in_rows zero r i x h m = absurd (omega arith)
  in_rows (suc n) r zero x h m =
      elem_left x (row_cells cols rows e r) (rows_from n cols rows e (r + 1)) (subst (λ (k : ℕ). elem x (row_cells cols rows e k) ≡ true) (add-zero r) m)
  in_rows (suc n) r (suc i) x h m =
      elem_right x (row_cells cols rows e r) (rows_from n cols rows e (r + 1))
      (in_rows n (r + 1) i x (omega arith) (subst (λ (k : ℕ). elem x (row_cells cols rows e k) ≡ true) (omega arith) m))

  pub listed : (r c : ℕ) → Listed cols rows e r c → elem (r * cols + c) (cells_between cols rows e) ≡ true
  unfolding cells_between
  listed r c p =
      let first = first_row rows e in
      in_rows (last_row rows e + 1 - first) first (r - first) (r * cols + c) (inside p.row_from p.row_to)
      (subst (λ (k : ℕ). elem (r * cols + c) (row_cells cols rows e k) ≡ true) (again p.row_from) (in_row r c p.col_from p.col_to))
    where
      inside : {a b : ℕ} → a ≤ r → r ≤ b → r - a < b + 1 - a
      inside h k = omega arith

      again : {a : ℕ} → a ≤ r → r ≡ a + (r - a)
      again h = omega arith

-- ---- it increases, from k on and below n

-- xs increases from k on, and ends below n
pub record RisesBelow (n k : ℕ) (xs : List ℕ) : Type 0 where
  pub rising : Rising k xs
  pub below : Below n xs

run_rises : (m k b n : ℕ) (ys : List ℕ) → k + m ≤ b → b ≤ n → RisesBelow n b ys → RisesBelow n k (run m k ++ ys)
unfolding run
run_rises zero k b n ys h l t = record { rising = rising_low k b ys (omega arith) t.rising; below = t.below }
run_rises (suc m) k b n ys h l t =
    let i = run_rises m (k + 1) b n ys (omega arith) l t in
    record { rising = (le_refl k, subst (λ (z : ℕ). Rising z (run m (k + 1) ++ ys)) (add-one k) i.rising); below = (omega arith, i.below) }

-- all cells
pub all_rise : (n : ℕ) → RisesBelow n 0 (run n 0)
all_rise n = subst (λ (l : List ℕ). RisesBelow n 0 l) (append-nil (run n 0)) (run_rises n 0 n n [] (omega arith) (le_refl n) (record { rising = tt; below = tt }))

-- the cells of rows
module _ (cols rows : ℕ) (e : Ends) (C : 0 < cols) where
  row_end : (r f l : ℕ) → f < cols → l < cols → r * cols + f + (l + 1 - f) ≤ (r + 1) * cols
  row_end r f l h k = omega arith

  rows_rise : (n r top : ℕ) → r + n ≤ top → RisesBelow (top * cols) (r * cols) (rows_from n cols rows e r)
  unfolding rows_from row_cells
  rows_rise zero r top h = record { rising = tt; below = tt }
  rows_rise (suc n) r top h =
      let f = first_col cols rows e r in
      let ys = rows_from n cols rows e (r + 1) in
      let z : RisesBelow (top * cols) (r * cols + f) (row_cells cols rows e r ++ ys) = one_row r ys (omega arith) (rows_rise n (r + 1) top (omega arith)) in
      record { rising = rising_low (r * cols) (r * cols + f) (row_cells cols rows e r ++ ys) (omega arith) z.rising; below = z.below }
    where
      one_row : (r : ℕ) (ys : List ℕ) → r < top → RisesBelow (top * cols) ((r + 1) * cols) ys → RisesBelow (top * cols) (r * cols + first_col cols rows e r) (row_cells cols rows e r ++ ys)
      one_row r ys l t =
          let k : r + 1 ≤ top = omega arith in
          run_rises (last_col cols rows e r + 1 - first_col cols rows e r) (r * cols + first_col cols rows e r) ((r + 1) * cols) (top * cols) ys
          (row_end r (first_col cols rows e r) (last_col cols rows e r) (first_in cols rows e C r) (last_in cols rows e C r)) (mul-le-mul_right cols k) t

  pub cells_rise : 0 < rows → RisesBelow (rows * cols) 0 (cells_between cols rows e)
  unfolding cells_between
  cells_rise R =
      let first = first_row rows e in
      let xs = rows_from (last_row rows e + 1 - first) cols rows e first in
      let z = rows_rise (last_row rows e + 1 - first) first rows (omega arith) in
      record { rising = rising_low 0 (first * cols) xs (omega arith) z.rising; below = z.below }

  -- what is in the list is a cell of the grid
  pub listed_below : 0 < rows → (c : ℕ) → elem c (cells_between cols rows e) ≡ true → c < rows * cols
  listed_below R c h = below_elem (rows * cols) c (cells_between cols rows e) (cells_rise R).below h
