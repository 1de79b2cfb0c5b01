-- One turn of each part of a seek: a whole cell, row, global or run of lines is passed. Assumes nothing.
use mathlib.Core.Path.{◌≡◌, refl, sym, ap, ◌∙◌}
use mathlib.Core.List.{List, ◌∷◌, ◌++◌, append_assoc}
use Prim.Native.Nat.{ℕ, suc, ◌+◌, ◌-◌, ◌≤◌, ◌<◌}
use native.Mathlib.Nat.{sub-zero}
use native.Mathlib.Numerals.{add-one}
use native.Mathlib.Omega.{arith}
use lib.ListN.{length, get_or, take, drop, length-append, length-drop}
use lib.Seq.{drop-cons, drop-drop}
use Rattle.tables.specs.Tables.{list_in}
use Rattle.seek.specs.declared.Place.{Place}
use Rattle.seek.specs.declared.Place.TheVariants.{Global}
use Rattle.seek.specs.Tests.{Pair, with_each, pairs, place_of, cell_tests, others, global_tests}
use Rattle.tables.specs.InsideFit.{CellsFit, GlobalsFit}
use Rattle.seek.specs.Inside.{tri, stop_of, CellSought, RowSought, GlobalSought, LineSought, SoughtAsks}
use Rattle.seek.specs.Cursors.{LineFits}
use Rattle.seek.proofs.Clauses.{left_suc, drop_past, length_with, pairs_cons, cells_suc, globals_suc}
use Rattle.seek.proofs.CellRests.{length_list}
use Rattle.seek.proofs.OtherLines.{others_jump}
use Rattle.seek.proofs.GlobalRests.{stop_in, stop_out, stop_most, free, line_further, pass_others, pass_fits}
use Rattle.seek.proofs.Lengths.{tri_suc, tri_zero, length_pairs, lines_count}

-- ---- whole cells

pub record CellSeek (m : ℕ) (offsets items : List ℕ) (left₀ left cell : ℕ) : Type 0 where
  pub table : CellsFit m offsets items
  pub at_most : cell ≤ m
  pub same : (cols : ℕ) (tail : List Pair) → drop left₀ (cell_tests cols offsets items m 0 ++ tail) ≡ drop left (cell_tests cols offsets items (m - cell) cell ++ tail)
  pub counts : (cols : ℕ) → left₀ + length (cell_tests cols offsets items (m - cell) cell) ≡ left + length (cell_tests cols offsets items m 0)

pub cell_seek : (m : ℕ) (offsets items : List ℕ) (left : ℕ) → CellsFit m offsets items → CellSeek m offsets items left left 0
cell_seek m offsets items left t =
    let z : m - 0 ≡ m = omega arith in
    record { table = t; at_most = omega arith; same = λ cols tail. rw z; counts = λ cols. rw z }

module _ (m : ℕ) (offsets items : List ℕ) (left₀ left cell : ℕ) (s : CellSeek m offsets items left₀ left cell) where
  pub cell_end : m ≤ cell → CellSought m offsets items left₀ cell left
  cell_end h = record { at_most = s.at_most; same = s.same; counts = s.counts; inside = λ l. absurd (omega arith) }

  module _ (h : cell < m) where
    pub cell_up : get_or offsets cell 0 ≤ get_or offsets (cell + 1) 0
    cell_up = rw add-one (s.table.rises cell h)

    module _ (d : ℕ) (e : d ≡ tri (get_or offsets (cell + 1) 0 - get_or offsets cell 0)) where
      pub cell_found : left < d → CellSought m offsets items left₀ cell left
      cell_found k =
          record {
            at_most = s.at_most;
            same = s.same;
            counts = s.counts;
            inside = λ l. let e₁ : d ≡ tri (get_or offsets (suc cell) 0 - get_or offsets cell 0) = e ∙ rw add-one in omega arith;
          }

      long : (cols : ℕ) → length (pairs (place_of cols cell) (list_in offsets items cell)) ≡ d
      long cols =
          length_pairs (place_of cols cell) (list_in offsets items cell)
          ∙ ap tri (length_list m offsets items s.table cell h)
          ∙ sym (e ∙ rw add-one)

      split : (cols : ℕ) → cell_tests cols offsets items (m - cell) cell ≡ pairs (place_of cols cell) (list_in offsets items cell) ++ cell_tests cols offsets items (m - (cell + 1)) (cell + 1)
      split cols = rw (left_suc m cell h, add-one) (cells_suc cols offsets items (m - suc cell) cell)

      pub cell_passed : d ≤ left → CellSeek m offsets items left₀ (left - d) (cell + 1)
      cell_passed k =
          record {
            table = s.table;
            at_most = omega arith;
            same = λ cols tail.
                s.same cols tail
                ∙ ap (λ (l : List Pair). drop left (l ++ tail)) (split cols)
                ∙ ap (drop left) (append_assoc (pairs (place_of cols cell) (list_in offsets items cell)) (cell_tests cols offsets items (m - (cell + 1)) (cell + 1)) tail)
                ∙ drop_past left d (pairs (place_of cols cell) (list_in offsets items cell)) (cell_tests cols offsets items (m - (cell + 1)) (cell + 1) ++ tail) (long cols) k;
            counts = λ cols.
                let u : length (cell_tests cols offsets items (m - cell) cell) ≡ d + length (cell_tests cols offsets items (m - (cell + 1)) (cell + 1)) =
                ap length (split cols) ∙ length-append (pairs (place_of cols cell) (list_in offsets items cell)) (cell_tests cols offsets items (m - (cell + 1)) (cell + 1)) ∙ rw (long cols) in
                omega (arith, s.counts cols);
          }

-- ---- whole rows

pub record RowSeek (len left₀ left i : ℕ) : Type 0 where
  pub at_most : i ≤ len
  pub small : left < tri (len - i)
  pub same : (xs : List ℕ) (pl : Place) (tail : List Pair) → length xs ≡ len → drop left₀ (pairs pl xs ++ tail) ≡ drop left (pairs pl (drop i xs) ++ tail)

pub row_seek : (len left : ℕ) → left < tri len → RowSeek len left left 0
row_seek len left h = record { at_most = omega arith; small = rw sub-zero h; same = λ xs pl tail e. refl }

module _ (len left₀ left i : ℕ) (s : RowSeek len left₀ left i) where
  pub row_none : len ≤ i → ⊥
  row_none h =
      let z : len - i ≡ 0 = omega arith in
      omega (arith, s.small, ap tri z ∙ tri_zero)

  module _ (h : i < len) where
    pub row_found : left < len - i - 1 → RowSought len left₀ i left
    row_found k = record { within = omega arith; same = s.same }

    pub row_passed : len - i - 1 ≤ left → RowSeek len left₀ (left - (len - i - 1)) (i + 1)
    row_passed k =
        let z : len - i ≡ suc (len - (i + 1)) = omega arith in
        let t : tri (len - i) ≡ (len - (i + 1)) + tri (len - (i + 1)) = ap tri z ∙ tri_suc (len - (i + 1)) in
        record { at_most = omega arith; small = omega (arith, s.small); same = λ xs pl tail e. s.same xs pl tail e ∙ passed xs pl tail e }
      where
        passed : (xs : List ℕ) (pl : Place) (tail : List Pair) → length xs ≡ len → drop left (pairs pl (drop i xs) ++ tail) ≡ drop (left - (len - i - 1)) (pairs pl (drop (i + 1) xs) ++ tail)
        passed xs pl tail e =
            let l : length (with_each pl (get_or xs i 0) (drop (suc i) xs)) ≡ len - i - 1 = length_with pl (get_or xs i 0) (drop (suc i) xs) ∙ length-drop (suc i) xs ∙ omega arith in
            let d : drop i xs ≡ get_or xs i 0 ∷ drop (suc i) xs = drop-cons xs i 0 (omega arith) in
            rw (d, pairs_cons, add-one)
            (ap (drop left) (append_assoc (with_each pl (get_or xs i 0) (drop (suc i) xs)) (pairs pl (drop (suc i) xs)) tail)
            ∙ drop_past left (len - i - 1) (with_each pl (get_or xs i 0) (drop (suc i) xs)) (pairs pl (drop (suc i) xs) ++ tail) l (omega arith))

-- ---- whole globals

pub record GlobalSeek (n m : ℕ) (globals : List ℕ) (left₀ left p : ℕ) : Type 0 where
  pub table : GlobalsFit n m globals
  pub at_most : p ≤ m
  pub same : drop left₀ (global_tests n globals m 0) ≡ drop left (global_tests n globals (m - p) p)
  pub counts : left₀ + length (global_tests n globals (m - p) p) ≡ left + length (global_tests n globals m 0)

pub global_seek : (n m : ℕ) (globals : List ℕ) (left : ℕ) → GlobalsFit n m globals → GlobalSeek n m globals left left 0
global_seek n m globals left t = let z : m - 0 ≡ m = omega arith in record { table = t; at_most = omega arith; same = rw z; counts = rw z }

module _ (n m : ℕ) (globals : List ℕ) (left₀ left p : ℕ) (s : GlobalSeek n m globals left₀ left p) where
  pub global_end : m ≤ p → GlobalSought n m globals left₀ p left
  global_end h = record { at_most = s.at_most; same = s.same; counts = s.counts; inside = λ l. absurd (omega arith) }

  module _ (h : p < m) where
    pub global_some : p < n
    global_some = omega (arith, lines_count n m globals s.table p h)

    pub global_found : left < n - p - 1 → GlobalSought n m globals left₀ p left
    global_found k = record { at_most = s.at_most; same = s.same; counts = s.counts; inside = λ l. omega arith }

    here : List Pair
    here = with_each (Global p) (get_or globals p 0) (others (take (suc p) globals) n 0)

    here_long : length here ≡ n - p - 1
    unfolding here
    here_long = length_with (Global p) (get_or globals p 0) (others (take (suc p) globals) n 0) ∙ omega (arith, lines_count n m globals s.table p h)

    here_split : global_tests n globals (m - p) p ≡ here ++ global_tests n globals (m - (p + 1)) (p + 1)
    unfolding here
    here_split = rw (left_suc m p h, add-one) (globals_suc n globals (m - suc p) p)

    pub global_passed : n - p - 1 ≤ left → GlobalSeek n m globals left₀ (left - (n - p - 1)) (p + 1)
    global_passed k =
        let u : length (global_tests n globals (m - p) p) ≡ (n - p - 1) + length (global_tests n globals (m - (p + 1)) (p + 1)) =
        ap length here_split ∙ length-append here (global_tests n globals (m - (p + 1)) (p + 1)) ∙ rw here_long in
        record {
          table = s.table;
          at_most = omega arith;
          same = s.same ∙ ap (drop left) here_split ∙ drop_past left (n - p - 1) here (global_tests n globals (m - (p + 1)) (p + 1)) here_long k;
          counts = omega (arith, s.counts);
        }

-- ---- the lines of a global

pub record LineSeek (n m : ℕ) (globals : List ℕ) (p left₀ left q k : ℕ) : Type 0 where
  pub table : GlobalsFit n m globals
  pub inside : p < m
  pub fits : LineFits n m globals p q k
  pub small : left + (suc p - q) + k < n
  pub same : drop left₀ (others (take (suc p) globals) n 0) ≡ drop left (others (take (suc p) globals) (n - k) k)

pub line_seek : (n m : ℕ) (globals : List ℕ) (p left : ℕ) → SoughtAsks n m globals p left → LineSeek n m globals p left left 0 0
line_seek n m globals p left a =
    record {
      table = a.table;
      inside = a.inside;
      fits = record { at_most = omega (arith, a.inside); q_small = omega arith; k_small = omega arith; passed = λ x i. absurd (omega arith); ahead = λ i j. omega arith };
      small = omega (arith, a.small);
      same = rw sub-zero;
    }

module _ (n m : ℕ) (globals : List ℕ) (p left₀ left q k : ℕ) (s : LineSeek n m globals p left₀ left q k) where
  -- a jump of d lines, before the stop
  jump : (d : ℕ) → k + d ≤ stop_of n globals p q → drop d (others (take (suc p) globals) (n - k) k) ≡ others (take (suc p) globals) (n - (k + d)) (k + d)
  jump d h =
      let e : n - k ≡ d + (n - (k + d)) = omega (arith, stop_most n m globals s.table p q k s.fits s.inside) in
      ap (λ (x : ℕ). drop d (others (take (suc p) globals) x k)) e
      ∙ others_jump d (n - (k + d)) k (take (suc p) globals) (λ x a b. free n m globals s.table p q k s.fits s.inside x a (omega arith))

  -- the line that is sought
  pub line_found : k + left < stop_of n globals p q → LineSought n m globals p left₀ q (k + left)
  line_found h =
      record {
        fits = line_further n m globals s.table p q k s.fits s.inside (k + left) (omega arith) (omega arith);
        one = h;
        same = s.same ∙ jump left (omega arith);
      }

  pub line_last : p < q → LineSought n m globals p left₀ q (k + left)
  line_last h = line_found (omega (arith, stop_out n globals p q h, s.small))

  module _ (h : q ≤ p) where
    pub global_in : q < length globals
    global_in = omega (arith, s.inside, s.table.long)

    pub line_ahead : k ≤ get_or globals q 0
    line_ahead = s.fits.ahead s.inside h

    pub line_below : get_or globals q 0 < n
    line_below = s.table.below q (omega (arith, s.inside))

    pub line_before : left < get_or globals q 0 - k → LineSought n m globals p left₀ q (k + left)
    line_before d = line_found (omega (arith, stop_in n globals p q h))

    pub line_passed : get_or globals q 0 - k ≤ left → LineSeek n m globals p left₀ (left - (get_or globals q 0 - k)) (q + 1) (get_or globals q 0 + 1)
    line_passed d =
        let g : ℕ = get_or globals q 0 in
        let e : k + (g - k) ≡ g = omega (arith, line_ahead) in
        let e₁ : (g - k) + (left - (g - k)) ≡ left = omega arith in
        let f : LineFits n m globals p q g = line_further n m globals s.table p q k s.fits s.inside g line_ahead (omega (arith, stop_in n globals p q h)) in
        record {
          table = s.table;
          inside = s.inside;
          fits = pass_fits n m globals s.table p q g f s.inside h (omega arith);
          small = omega (arith, s.small, line_ahead);
          same = s.same
              ∙ ap (λ (x : ℕ). drop x (others (take (suc p) globals) (n - k) k)) (sym e₁)
              ∙ sym (drop-drop (left - (g - k)) (g - k) (others (take (suc p) globals) (n - k) k))
              ∙ ap (drop (left - (g - k)))
              (jump (g - k) (omega (arith, stop_in n globals p q h, line_ahead))
              ∙ ap (λ (x : ℕ). others (take (suc p) globals) (n - x) x) e
              ∙ pass_others n m globals s.table p q g f s.inside h (omega arith));
        }
