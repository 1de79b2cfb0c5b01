-- What is left of the cells' lists: a pair is taken, a row ends, a list ends, and the next begins. Assumes nothing.
use mathlib.Core.Path.{◌≡◌}
use mathlib.Core.List.{List, [], ◌∷◌, ◌++◌}
use Prim.Native.Nat.{ℕ, zero, suc, ◌-◌, ◌≤◌, ◌<◌}
use native.Mathlib.Omega.{arith}
use lib.ListN.{length, get_or, drop, length-drop, drop_of_length-le}
use lib.Seq.{drop-cons, length-slice}
use Rattle.tables.specs.Tables.{list_in}
use Rattle.seek.specs.declared.Place.{Place}
use Rattle.seek.specs.Tests.{pair, pairs, place_of, cell_tests}
use Rattle.seek.specs.Cursors.{rest_in, cells_rest}
use Rattle.tables.specs.InsideFit.{CellsFit}
use Rattle.seek.proofs.Clauses.{left_suc, with_nil, with_cons, pairs_nil, pairs_cons, cells_suc, cells_zero, rest_suc, rest_zero}

-- ---- one list

pairs_short : (pl : Place) (ys : List ℕ) → length ys ≤ 1 → pairs pl ys ≡ []
pairs_short pl [] h = pairs_nil pl
pairs_short pl (x ∷ []) h = simp (pairs_cons, with_nil, pairs_nil)
pairs_short pl (x ∷ (y ∷ ys)) h = absurd (omega arith)

module _ (pl : Place) (xs : List ℕ) where
  pub pair_taken : (i j : ℕ) → j < length xs → rest_in pl xs i j ≡ pair pl (get_or xs i 0) (get_or xs j 0) ∷ rest_in pl xs i (suc j)
  unfolding rest_in
  pair_taken i j h = simp (drop-cons xs j 0 h, with_cons)

  pub row_ends : (i j : ℕ) → length xs ≤ j → suc (suc i) < length xs → rest_in pl xs i j ≡ rest_in pl xs (suc i) (suc (suc i))
  unfolding rest_in
  row_ends i j h k =
      let l : suc i < length xs = omega arith in
      simp (drop_of_length-le xs {i = j} h, with_nil, drop-cons xs (suc i) 0 l, pairs_cons)

  pub list_ends : (i j : ℕ) → length xs ≤ j → length xs ≤ suc (suc i) → rest_in pl xs i j ≡ []
  unfolding rest_in
  list_ends i j h k =
      let l : length (drop (suc i) xs) ≤ 1 = rw length-drop (omega arith) in
      simp (drop_of_length-le xs {i = j} h, with_nil, pairs_short pl (drop (suc i) xs) l)

pub list_begins : (pl : Place) (xs : List ℕ) → pairs pl xs ≡ rest_in pl xs 0 1
unfolding rest_in
list_begins pl [] = simp (with_nil, pairs_nil)
list_begins pl (x ∷ xs) = pairs_cons pl x xs

-- ---- the cells

pub length_list : (m : ℕ) (offsets items : List ℕ) → CellsFit m offsets items → (c : ℕ) → c < m
    → length (list_in offsets items c) ≡ get_or offsets (suc c) 0 - get_or offsets c 0
length_list m offsets items t c h = length-slice (get_or offsets c 0) (get_or offsets (suc c) 0) items (t.within (suc c) h)

module _ (cols : ℕ) (offsets items : List ℕ) where
  pub cells_begin : (left c : ℕ) → cell_tests cols offsets items left c ≡ cells_rest cols offsets items left c 0 1
  cells_begin zero c = simp (cells_zero, rest_zero)
  cells_begin (suc left) c = simp (cells_suc, rest_suc, list_begins)

  pub cells_done : (m c i j : ℕ) → m ≤ c → cells_rest cols offsets items (m - c) c i j ≡ []
  cells_done m c i j h = let z : m - c ≡ 0 = omega arith in simp (z, rest_zero)

  module _ (m c : ℕ) (h : c < m) where
    pub rest_at : (i j : ℕ) → cells_rest cols offsets items (m - c) c i j ≡ rest_in (place_of cols c) (list_in offsets items c) i j ++ cell_tests cols offsets items (m - suc c) (suc c)
    rest_at i j = rw (left_suc m c h) (rest_suc cols offsets items (m - suc c) c i j)

    pub next_row : (i j : ℕ) → length (list_in offsets items c) ≤ j → suc (suc i) < length (list_in offsets items c)
        → cells_rest cols offsets items (m - c) c i j ≡ cells_rest cols offsets items (m - c) c (suc i) (suc (suc i))
    next_row i j a b = simp (rest_at, row_ends (place_of cols c) (list_in offsets items c) i j a b)

    pub next_cell : (i j : ℕ) → length (list_in offsets items c) ≤ j → length (list_in offsets items c) ≤ suc (suc i)
        → cells_rest cols offsets items (m - c) c i j ≡ cells_rest cols offsets items (m - suc c) (suc c) 0 1
    next_cell i j a b = rw (rest_at i j, list_ends (place_of cols c) (list_in offsets items c) i j a b) (cells_begin (m - suc c) (suc c))
