-- The first of some tests: the cursor that stands there, and what is read there, in a cell, among the globals, and at the end. Assumes nothing.
use Rattle.std.specs.Prelude.{Ok, Some, None}
use mathlib.Core.Path.{◌≡◌, refl, ap, ◌∙◌}
use mathlib.Core.List.{List, [], ◌∷◌, ◌++◌}
use Prim.Native.Nat.{ℕ, zero, suc, ◌+◌, ◌-◌, ◌*◌, ◌/◌, ◌%◌, ◌≤◌, ◌<◌}
use native.Mathlib.Nat.{div-add-mod'}
use native.Mathlib.Omega.{arith}
use lib.ListN.{length, get_or, take, drop}
use lib.Seq.{drop-cons, get_or-take, get_or-drop, length-take-le}
use borrow.Author.Tests.{lt-ltb, le-ltb}
use Rattle.slices.specs.Lists.{Rising}
use Rattle.slices.proofs.Distinct.{rising_at}
use Rattle.tables.specs.Tables.{Tables, cells, list_in, list_of}
use Rattle.seek.specs.declared.Place.TheVariants.{Cell, Global}
use Rattle.seek.specs.declared.Cursor.{Cursor}
use Rattle.seek.specs.Tests.{Pair, pair, with_each, place_of, others, global_tests}
use Rattle.seek.specs.Bookmarks.{first_of}
use Rattle.seek.specs.Cursors.{globals_rest, LineFits, rank_of, at_test, at_first_test}
use Rattle.tables.specs.InsideFit.{CellsFit, GlobalsFit}
use Rattle.seek.specs.Inside.{stop_of, PairAtAsks, pair_of}
use Rattle.seek.proofs.Clauses.{left_suc, with_cons, others_out}
use Rattle.seek.proofs.CellRests.{length_list}
use Rattle.seek.proofs.GlobalRests.{grest_at, stop_most, free}

-- ---- where a value stands in a list

rank_nil : (v : ℕ) → rank_of v [] ≡ 0
unfolding rank_of
rank_nil v = refl

rank_here : (v x : ℕ) (xs : List ℕ) → v ≤ x → rank_of v (x ∷ xs) ≡ 0
unfolding rank_of
rank_here v x xs h = rw (le-ltb x v h)

rank_later : (v x : ℕ) (xs : List ℕ) → x < v → rank_of v (x ∷ xs) ≡ suc (rank_of v xs)
unfolding rank_of
rank_later v x xs h = rw (lt-ltb x v h)

-- i entries are below v, and the next is not
rank_is : (v : ℕ) (xs : List ℕ) (i : ℕ) → i ≤ length xs → ((a : ℕ) → a < i → get_or xs a 0 < v) → (i < length xs → v ≤ get_or xs i 0) → rank_of v xs ≡ i
rank_is v [] zero h b n = rank_nil v
rank_is v [] (suc i) h b n = absurd (omega arith)
rank_is v (x ∷ xs) zero h b n = rank_here v x xs (n (omega arith))
rank_is v (x ∷ xs) (suc i) h b n =
    rank_later v x xs (b 0 (omega arith)) ∙ ap suc (rank_is v xs i (omega arith) (λ a l. b (suc a) (omega arith)) (λ l. n (omega arith)))

rank_at : (xs : List ℕ) (i : ℕ) → Rising 0 xs → i < length xs → rank_of (get_or xs i 0) xs ≡ i
rank_at xs i r h = rank_is (get_or xs i 0) xs i (omega arith) (λ a l. rising_at 0 xs a i r l h) (λ l. omega arith)

-- ---- the first of some tests

-- of a row of a list
row_first : (t : Tables) (c i j : ℕ) (tail : List Pair) → j < length (list_of t c)
    → with_each (place_of t.cols c) (get_or (list_of t c) i 0) (drop j (list_of t c)) ++ tail
    ≡ pair (place_of t.cols c) (get_or (list_of t c) i 0) (get_or (list_of t c) j 0) ∷ (with_each (place_of t.cols c) (get_or (list_of t c) i 0) (drop (suc j) (list_of t c)) ++ tail)
row_first t c i j tail h = rw (drop-cons (list_of t c) j 0 h, with_cons)

-- of the lines of a global
module _ (n m : ℕ) (globals : List ℕ) (g : GlobalsFit n m globals) (p q k : ℕ) (f : LineFits n m globals p q k) (h : p < m) (one : k < stop_of n globals p q) where
  line_first : globals_rest n globals (m - p) p k
      ≡ pair (Global p) (get_or globals p 0) k ∷ (with_each (Global p) (get_or globals p 0) (others (take (suc p) globals) (n - suc k) (suc k)) ++ global_tests n globals (m - suc p) (suc p))
  line_first =
      let s : k < n = omega (arith, stop_most n m globals g p q k f h) in
      rw (grest_at n m globals g p q k f h k, left_suc n k s, others_out (take (suc p) globals) (n - suc k) k (free n m globals g p q k f h k (omega arith) one), with_cons)

  line_rank : rank_of k (take (suc p) globals) ≡ q
  line_rank =
      let long : length (take (suc p) globals) ≡ suc p = length-take-le (suc p) globals (omega (arith, g.long)) in
      rank_is k (take (suc p) globals) q (omega (arith, f.q_small))
      (λ a l. omega (arith, get_or-take (suc p) globals a 0 (omega (arith, f.q_small)), f.passed a l))
      (λ l. omega (arith, get_or-take (suc p) globals q 0 (omega arith), f.ahead h (omega arith)))

-- ---- the cursor that stands there

module _ (t : Tables) where
  pub first_in_cell : (c i j : ℕ) (tail : List Pair) → Rising 0 (list_of t c) → i < j → j < length (list_of t c)
      → at_first_test t (with_each (place_of t.cols c) (get_or (list_of t c) i 0) (drop j (list_of t c)) ++ tail) ≡ record { cell = c; i = i; j = j; p = 0; q = 0; k = 0 }
  unfolding at_first_test at_test place_of
  first_in_cell c i j tail r l h =
      let e : c / t.cols * t.cols + c % t.cols ≡ c = div-add-mod' c t.cols in
      rw (row_first t c i j tail h, e, rank_at (list_of t c) i r (omega arith), rank_at (list_of t c) j r h)

  pub first_at_global : (p q k : ℕ) → GlobalsFit t.lines t.global_count t.globals → LineFits t.lines t.global_count t.globals p q k → p < t.global_count
      → k < stop_of t.lines t.globals p q
      → at_first_test t (globals_rest t.lines t.globals (t.global_count - p) p k) ≡ record { cell = cells t; i = 0; j = 1; p = p; q = q; k = k }
  unfolding at_first_test at_test
  first_at_global p q k g f h one =
      rw (line_first t.lines t.global_count t.globals g p q k f h one, line_rank t.lines t.global_count t.globals g p q k f h one)

  pub first_at_end : at_first_test t [] ≡ record { cell = cells t; i = 0; j = 1; p = t.global_count; q = 0; k = 0 }
  unfolding at_first_test
  first_at_end = refl

-- ---- what is read there

-- an entry of a cell's list, among the items
entry_at : (m : ℕ) (offsets items : List ℕ) → CellsFit m offsets items → (c : ℕ) → c < m → (i : ℕ) → i < length (list_in offsets items c)
    → get_or (list_in offsets items c) i 0 ≡ get_or items (get_or offsets c 0 + i) 0
entry_at m offsets items f c h i l =
    get_or-drop (get_or offsets c 0) (take (get_or offsets (suc c) 0) items) i 0
    ∙ get_or-take (get_or offsets (suc c) 0) items (get_or offsets c 0 + i) 0 (omega (arith, length_list m offsets items f c h))

module _ (t : Tables) where
  pub reads_cell : CellsFit (cells t) t.offsets t.items → (c i j : ℕ) (tail : List Pair) → c < cells t → i < j → j < length (list_of t c)
      → pair_of (cells t) t.cols t.offsets t.items t.globals t.global_count (record { cell = c; i = i; j = j; p = 0; q = 0; k = 0 })
      ≡ first_of (with_each (place_of t.cols c) (get_or (list_of t c) i 0) (drop j (list_of t c)) ++ tail)
  unfolding pair_of first_of
  reads_cell f c i j tail h l u =
      rw (row_first t c i j tail u, lt-ltb c (cells t) h, entry_at (cells t) t.offsets t.items f c h i (omega arith), entry_at (cells t) t.offsets t.items f c h j u)

  pub reads_global : (p q k : ℕ) → GlobalsFit t.lines t.global_count t.globals → LineFits t.lines t.global_count t.globals p q k → p < t.global_count
      → k < stop_of t.lines t.globals p q
      → pair_of (cells t) t.cols t.offsets t.items t.globals t.global_count (record { cell = cells t; i = 0; j = 1; p = p; q = q; k = k })
      ≡ first_of (globals_rest t.lines t.globals (t.global_count - p) p k)
  unfolding pair_of first_of
  reads_global p q k g f h one =
      rw (line_first t.lines t.global_count t.globals g p q k f h one, le-ltb (cells t) (cells t) (omega arith), lt-ltb p t.global_count h)

  pub reads_end : pair_of (cells t) t.cols t.offsets t.items t.globals t.global_count (record { cell = cells t; i = 0; j = 1; p = t.global_count; q = 0; k = 0 }) ≡ first_of []
  unfolding pair_of first_of
  reads_end = rw (le-ltb (cells t) (cells t) (omega arith), le-ltb t.global_count t.global_count (omega arith))

-- ---- as the code reads it

module _ (m : ℕ) (offsets items globals : List ℕ) (count : ℕ) (c : Cursor) where
  -- the two entries are among the items
  pub pair_in : PairAtAsks m offsets items globals count c → c.cell < m → get_or offsets c.cell 0 + c.j < length items
  pair_in a h = omega (arith, a.inside h, a.table.within (suc c.cell) h)

  module _ (cols : ℕ) where
    pub pair_cell : (from : ℕ) → c.cell < m → from ≡ get_or offsets c.cell 0
        → Ok (Some (record { place = (Cell (c.cell / cols) (c.cell % cols)); first = (get_or items (from + c.i) 0); second = (get_or items (from + c.j) 0) })) ≡ pair_of m cols offsets items globals count c
    unfolding pair_of place_of
    pair_cell from h e = rw (lt-ltb c.cell m h, e)

    pub pair_line : m ≤ c.cell → c.p < count → Ok (Some (record { place = (Global c.p); first = (get_or globals c.p 0); second = c.k })) ≡ pair_of m cols offsets items globals count c
    unfolding pair_of
    pair_line h l = rw (le-ltb c.cell m h, lt-ltb c.p count l)

    pub pair_over : m ≤ c.cell → count ≤ c.p → (Ok None) ≡ pair_of m cols offsets items globals count c
    unfolding pair_of
    pair_over h l = rw (le-ltb c.cell m h, le-ltb c.p count l)
