-- How many tests can be left in the cells: few enough to be counted in 64 bits. Assumes nothing.
use mathlib.Core.Path.{ap}
use mathlib.Core.Bool.{cond}
use mathlib.Core.List.{List}
use Prim.Native.Nat.{ℕ, zero, suc, ◌-◌, ◌*◌, ◌≤◌}
use native.Mathlib.Omega.{arith}
use lib.ListN.{length, get_or, drop, length-append, length-drop}
use lib.Dec.{ltb}
use Rattle.seek.specs.declared.Place.{Place}
use Rattle.seek.specs.Tests.{with_each, pairs, place_of}
use Rattle.seek.specs.Cursors.{rest_in}
use Rattle.seek.proofs.Clauses.{length_with}
use Rattle.seek.proofs.Lengths.{length_pairs, length_increasing, tri_few}
use Rattle.listed.specs.Lists.{list_by, list_from, tests_of_cells, cells_from}
use Rattle.listed.proofs.AsIs.{list_increases}
use Rattle.listed.proofs.CellLaws.{of_zero, of_suc, from_zero, from_suc}

pairs_most : (pl : Place) (xs : List ℕ) → length xs ≤ 65536 → length (pairs pl xs) ≤ 2147450880
pairs_most pl xs h = omega (arith, length_pairs pl xs, tri_few (length xs) h)

from_most : (pl : Place) (xs : List ℕ) (i j : ℕ) → length xs ≤ 65536 → length (list_from pl xs i j) ≤ 4294967296
unfolding list_from rest_in
from_most pl xs i j h =
    let m : ℕ = cond (ltb i j) j (suc i) in
    let a = length_with pl (get_or xs i 0) (drop m xs) in
    let b = length-drop m xs in
    let d = length-drop (suc i) xs in
    let e = pairs_most pl (drop (suc i) xs) (omega (arith, d)) in
    omega (arith, length-append (with_each pl (get_or xs i 0) (drop m xs)) (pairs pl (drop (suc i) xs)), a, b, e)

module _ (n : ℕ) (few : n ≤ 65536) (offsets items : List ℕ) (cols : ℕ) where
  short : (c : ℕ) → length (list_by n offsets items c) ≤ 65536
  short c = omega (arith, length_increasing n (list_by n offsets items c) (list_increases n offsets items c))

  of_most : (left c : ℕ) → length (tests_of_cells cols (list_by n offsets items) left c) ≤ left * 4294967296
  of_most zero c = omega (arith, ap length (of_zero cols (list_by n offsets items) c))
  of_most (suc left) c =
      omega (
        arith,
        ap length (of_suc cols (list_by n offsets items) left c),
        length-append (pairs (place_of cols c) (list_by n offsets items c)) (tests_of_cells cols (list_by n offsets items) left (suc c)),
        pairs_most (place_of cols c) (list_by n offsets items c) (short c),
        of_most left (suc c),
      )

  cells_most : (left c i j : ℕ) → length (cells_from cols (list_by n offsets items) left c i j) ≤ left * 4294967296
  cells_most zero c i j = omega (arith, ap length (from_zero cols (list_by n offsets items) c i j))
  cells_most (suc left) c i j =
      omega (
        arith,
        ap length (from_suc cols (list_by n offsets items) left c i j),
        length-append (list_from (place_of cols c) (list_by n offsets items c) i j) (tests_of_cells cols (list_by n offsets items) left (suc c)),
        from_most (place_of cols c) (list_by n offsets items c) i j (short c),
        of_most left (suc c),
      )

  pub cells_few : (m c i j : ℕ) → m ≤ 1002001 → length (cells_from cols (list_by n offsets items) (m - c) c i j) ≤ 4303561525559296
  cells_few m c i j h = omega (arith, cells_most (m - c) c i j)
