-- What a seek found is the cursor of the bookmark: in a cell, at a global, at the end; or the bookmark lies beyond. Assumes nothing.
use Rattle.std.specs.Prelude.{Ok}
use mathlib.Core.Path.{◌≡◌, sym, ap, ◌∙◌}
use mathlib.Core.List.{List, [], ◌∷◌, ◌++◌, append_assoc}
use Prim.Native.Nat.{ℕ, suc, ◌+◌, ◌-◌, ◌*◌, ◌≤◌, ◌<◌}
use native.Mathlib.Nat.{sub-zero}
use native.Mathlib.Numerals.{add-one}
use native.Mathlib.Omega.{arith}
use lib.ListN.{length, get_or, take, drop, length-append, length-drop}
use lib.Seq.{drop-cons, drop-append-le, drop-drop, drop-nil}
use Rattle.slices.specs.Lists.{Rising}
use Rattle.grid.specs.declared.Grid.{Grid}
use Rattle.grid.specs.Domain.{Lines, count}
use Rattle.tables.specs.Tables.{Tables, cells, list_in, beside}
use Rattle.seek.specs.declared.Place.{Place}
use Rattle.seek.specs.declared.Place.TheVariants.{Global}
use Rattle.seek.specs.declared.Cursor.{Cursor}
use Rattle.seek.specs.Tests.{Pair, with_each, pairs, place_of, cell_tests, others, global_tests, tests_of}
use Rattle.seek.specs.Bookmarks.{visit_check}
use Rattle.tables.specs.InsideFit.{CellsFit, GlobalsFit}
use Rattle.seek.specs.Inside.{tri, CellSought, RowSought, GlobalSought, LineSought, SoughtAsks, PairAtAsks, SoughtAt}
use Rattle.seek.specs.Cursors.{globals_rest, rest_in, rest_of, PlaceFits, at_first_test, CursorIs}
use Rattle.seek.proofs.Clauses.{left_suc, length_with, drop_with, pairs_cons, cells_zero, cells_suc, globals_zero, globals_suc}
use Rattle.seek.proofs.CellRests.{length_list, rest_at, cells_done}
use Rattle.seek.proofs.GlobalRests.{grest_at, globals_begin, globals_done}
use Rattle.seek.proofs.FirstTests.{first_in_cell, first_at_global, first_at_end, reads_cell, reads_global, reads_end}
use Rattle.seek.proofs.Lengths.{lines_count}
use Rattle.tables.proofs.Parts.{fit_globals}
use Rattle.seek.proofs.Clauses.{regroup}
use Rattle.seek.proofs.Passed.{here, m_fits, m_few}

-- the row i of a list, with some of it passed
row_rest : (xs : List ℕ) (pl : Place) (tail : List Pair) (i left : ℕ) → i + 1 + left < length xs
    → drop left (pairs pl (drop i xs) ++ tail) ≡ with_each pl (get_or xs i 0) (drop (i + 1 + left) xs) ++ (pairs pl (drop (suc i) xs) ++ tail)
row_rest xs pl tail i left h =
    let d : drop i xs ≡ get_or xs i 0 ∷ drop (suc i) xs = drop-cons xs i 0 (omega arith) in
    let l : left ≤ length (with_each pl (get_or xs i 0) (drop (suc i) xs)) = omega (arith, length_with pl (get_or xs i 0) (drop (suc i) xs), length-drop (suc i) xs) in
    rw (d, pairs_cons, add-one)
    (ap (drop left) (append_assoc (with_each pl (get_or xs i 0) (drop (suc i) xs)) (pairs pl (drop (suc i) xs)) tail)
    ∙ drop-append-le left (with_each pl (get_or xs i 0) (drop (suc i) xs)) (pairs pl (drop (suc i) xs) ++ tail) l
    ∙ ap (λ (x : List Pair). x ++ (pairs pl (drop (suc i) xs) ++ tail)) (drop_with pl (get_or xs i 0) left (drop (suc i) xs) ∙ ap (with_each pl (get_or xs i 0)) (drop-drop left (suc i) xs)))

module _ (ls : Lines) (g : Grid) (offsets items globals : List ℕ) (k : ℕ) (fine : visit_check ls g (beside ls g offsets items globals k) ≡ (Ok tt))
    (m : ℕ) (e : m ≡ g.rows * g.cols) (bookmark : ℕ) where
  abbrev t : Tables
  t = beside ls g offsets items globals k

  table : CellsFit m offsets items
  table = m_fits ls g offsets items globals k fine m e

  pub table_globals : GlobalsFit (count ls) k globals
  table_globals = fit_globals (beside ls g offsets items globals k) (here ls g offsets items globals k fine).tables

  stood : (c : Cursor) → c.i < c.j → (c.cell < m → c.j < get_or offsets (suc c.cell) 0 - get_or offsets c.cell 0) → PairAtAsks m offsets items globals k c
  stood c l f = record { table = table; few = m_few ls g offsets items globals k fine m e; long = table_globals.long; later = l; inside = f }

  tail : List Pair
  tail = global_tests (count ls) globals k 0

  tests_are : tests_of t ≡ cell_tests g.cols offsets items m 0 ++ tail
  unfolding tests_of tail
  tests_are = rw e

  tests_long : length (tests_of t) ≡ length (cell_tests g.cols offsets items m 0) + length tail
  tests_long = ap length tests_are ∙ length-append (cell_tests g.cols offsets items m 0) tail

  module _ (c left : ℕ) (f : CellSought m offsets items bookmark c left) where
    module _ (h : c < m) where
      xs : List ℕ
      xs = list_in offsets items c

      xs_long : length xs ≡ get_or offsets (suc c) 0 - get_or offsets c 0
      unfolding xs
      xs_long = length_list m offsets items table c h

      pub row_asks : left < tri (get_or offsets (c + 1) 0 - get_or offsets c 0)
      row_asks = rw add-one (f.inside h)

      pub row_up : get_or offsets c 0 ≤ get_or offsets (c + 1) 0
      row_up = rw add-one (table.rises c h)

      pub row_in : c + 1 < length offsets
      row_in = omega (arith, table.long)

      module _ (i left' : ℕ) (r : RowSought (get_or offsets (c + 1) 0 - get_or offsets c 0) left i left') where
        xs_is : length xs ≡ get_or offsets (c + 1) 0 - get_or offsets c 0
        xs_is = rw add-one xs_long

        r_within : i + 1 + left' < length xs
        r_within = omega (arith, r.within, xs_is)

        pub row_most : i + 1 + left' ≤ length items
        row_most = omega (arith, r_within, xs_long, table.within (suc c) h)

        more : List Pair
        more = cell_tests g.cols offsets items (m - suc c) (suc c)

        split_cell : cell_tests g.cols offsets items (m - c) c ≡ pairs (place_of g.cols c) xs ++ more
        unfolding more xs
        split_cell = rw (left_suc m c h) (cells_suc g.cols offsets items (m - suc c) c)

        -- what is left at the bookmark, row by row
        left_is : drop bookmark (tests_of t)
            ≡ with_each (place_of g.cols c) (get_or xs i 0) (drop (i + 1 + left') xs) ++ (pairs (place_of g.cols c) (drop (suc i) xs) ++ (more ++ tail))
        unfolding more xs
        left_is =
            let pl = place_of g.cols c in
            ap (drop bookmark) tests_are
            ∙ f.same g.cols tail
            ∙ ap (λ (l : List Pair). drop left (l ++ tail)) split_cell
            ∙ ap (drop left) (append_assoc (pairs pl xs) more tail)
            ∙ r.same xs pl (more ++ tail) xs_is
            ∙ row_rest xs pl (more ++ tail) i left' r_within

        rest_is : rest_of t (record { cell = c; i = i; j = i + 1 + left'; p = 0; q = 0; k = 0 })
            ≡ with_each (place_of g.cols c) (get_or xs i 0) (drop (i + 1 + left') xs) ++ (pairs (place_of g.cols c) (drop (suc i) xs) ++ (more ++ tail))
        unfolding rest_of rest_in more xs tail
        rest_is =
            rw (← e, rest_at g.cols offsets items m c h i (i + 1 + left'), sub-zero, ← globals_begin (count ls) globals k 0)
            (regroup (with_each (place_of g.cols c) (get_or xs i 0) (drop (i + 1 + left') xs)) (pairs (place_of g.cols c) (drop (suc i) xs)) more tail)

        rises : Rising 0 xs
        unfolding xs
        rises = ((here ls g offsets items globals k fine).tables.lists.lists c (rw e at h)).rises

        found_cell : CursorIs ls g t bookmark (record { cell = c; i = i; j = i + 1 + left'; p = 0; q = 0; k = 0 })
        unfolding xs
        found_cell =
            let row = with_each (place_of g.cols c) (get_or xs i 0) (drop (i + 1 + left') xs) in
            record {
              ready = record {
                fine = fine;
                fits = record {
                  in_cells = rw (← e) (record { at_most = omega arith; later = omega arith; small = omega (arith, row_most) });
                  in_globals = record { at_most = omega arith; q_small = omega arith; k_small = omega arith; passed = λ x i. absurd (omega arith); ahead = λ x i. omega arith };
                };
              };
              at_most =
                  omega (
                    arith,
                    length-drop bookmark (tests_of t),
                    ap length left_is,
                    length-append row (pairs (place_of g.cols c) (drop (suc i) xs) ++ (more ++ tail)),
                    length_with (place_of g.cols c) (get_or xs i 0) (drop (i + 1 + left') xs),
                    length-drop (i + 1 + left') xs,
                    r_within,
                  );
              rest = rest_is ∙ sym left_is;
              at_first = sym (ap (at_first_test t) left_is ∙ first_in_cell t c i (i + 1 + left') (pairs (place_of g.cols c) (drop (suc i) xs) ++ (more ++ tail)) rises (omega arith) r_within);
            }

        pub sought_cell : SoughtAt ls g t bookmark (record { cell = c; i = i; j = i + 1 + left'; p = 0; q = 0; k = 0 })
        unfolding xs
        sought_cell =
            record {
              is = found_cell;
              asks = rw (← e) (stood (record { cell = c; i = i; j = i + 1 + left'; p = 0; q = 0; k = 0 }) (omega arith) (λ l. omega (arith, r_within, xs_long)));
              reads = rw left_is (reads_cell t (rw e at table) c i (i + 1 + left') (pairs (place_of g.cols c) (drop (suc i) xs) ++ (more ++ tail)) (rw e at h) (omega arith) r_within);
            }

    -- past the cells
    module _ (h : m ≤ c) where
      past : drop bookmark (tests_of t) ≡ drop left tail
      past =
          let z : m - c ≡ 0 = omega arith in
          ap (drop bookmark) tests_are ∙ f.same g.cols tail ∙ rw (z, cells_zero)

      counted : bookmark ≡ left + length (cell_tests g.cols offsets items m 0)
      counted =
          let z : m - c ≡ 0 = omega arith in
          let w : bookmark + 0 ≡ left + length (cell_tests g.cols offsets items m 0) = rw (z, cells_zero) at (f.counts g.cols) in
          omega arith

      at_end : (p q x : ℕ) → rest_of t (record { cell = m; i = 0; j = 1; p = p; q = q; k = x }) ≡ globals_rest (count ls) globals (k - p) p x
      unfolding rest_of
      at_end p q x = rw (← e, cells_done g.cols offsets items m m 0 1 (omega arith))

      place_end : PlaceFits (cells t) items m 0 1
      place_end = rw (← e) (record { at_most = omega arith; later = omega arith; small = omega arith })

      module _ (p left' : ℕ) (w : GlobalSought (count ls) k globals left p left') where
        pub line_asks : p < k → SoughtAsks (count ls) k globals p left'
        line_asks l = record { table = table_globals; inside = l; small = w.inside l }

        counted_globals : k ≤ p → left ≡ left' + length tail
        unfolding tail
        counted_globals l =
            let z : k - p ≡ 0 = omega arith in
            let v : left + 0 ≡ left' + length (global_tests (count ls) globals k 0) = rw (z, globals_zero) at w.counts in
            omega arith

        pub found_beyond : k ≤ p → 0 < left' → length (tests_of t) < bookmark
        found_beyond l b = omega (arith, counted, counted_globals l, tests_long)

        none : k ≤ p → drop bookmark (tests_of t) ≡ []
        unfolding tail
        none l = let z : k - p ≡ 0 = omega arith in past ∙ w.same ∙ rw (z, globals_zero) (drop-nil left')

        found_end : k ≤ p → left' ≤ 0 → CursorIs ls g t bookmark (record { cell = m; i = 0; j = 1; p = k; q = 0; k = 0 })
        unfolding tail
        found_end l b =
            record {
              ready = record {
                fine = fine;
                fits = record {
                  in_cells = place_end;
                  in_globals = record { at_most = omega arith; q_small = omega arith; k_small = omega arith; passed = λ x i. absurd (omega arith); ahead = λ x i. omega arith };
                };
              };
              at_most = omega (arith, counted, counted_globals l, tests_long);
              rest = at_end k 0 0 ∙ globals_done (count ls) globals k k 0 (omega arith) ∙ sym (none l);
              at_first = rw (e, none l) (sym (first_at_end t));
            }

        pub sought_end : k ≤ p → left' ≤ 0 → SoughtAt ls g t bookmark (record { cell = m; i = 0; j = 1; p = k; q = 0; k = 0 })
        sought_end l b =
            record {
              is = found_end l b;
              asks = rw (← e) (stood (record { cell = m; i = 0; j = 1; p = k; q = 0; k = 0 }) (omega arith) (λ x. absurd (omega arith)));
              reads = rw (e, none l) (reads_end t);
            }

        module _ (l : p < k) (q x : ℕ) (s : LineSought (count ls) k globals p left' q x) where
          lines_here : List ℕ
          lines_here = others (take (suc p) globals) (count ls) 0

          split_here : global_tests (count ls) globals (k - p) p ≡ with_each (Global p) (get_or globals p 0) lines_here ++ global_tests (count ls) globals (k - suc p) (suc p)
          unfolding lines_here
          split_here = rw (left_suc k p l) (globals_suc (count ls) globals (k - suc p) p)

          enough : left' ≤ length (with_each (Global p) (get_or globals p 0) lines_here)
          unfolding lines_here
          enough = omega (arith, length_with (Global p) (get_or globals p 0) lines_here, lines_count (count ls) k globals table_globals p l, w.inside l)

          global_left : drop left' (global_tests (count ls) globals (k - p) p) ≡ globals_rest (count ls) globals (k - p) p x
          unfolding lines_here
          global_left =
              let more = global_tests (count ls) globals (k - suc p) (suc p) in
              ap (drop left') split_here
              ∙ drop-append-le left' (with_each (Global p) (get_or globals p 0) lines_here) more enough
              ∙ ap (λ (v : List Pair). v ++ more) (drop_with (Global p) (get_or globals p 0) left' lines_here ∙ ap (with_each (Global p) (get_or globals p 0)) s.same)
              ∙ sym (grest_at (count ls) k globals table_globals p q x s.fits l x)

          left_now : drop bookmark (tests_of t) ≡ globals_rest (count ls) globals (k - p) p x
          unfolding tail
          left_now = past ∙ w.same ∙ global_left

          some_left : bookmark ≤ length (tests_of t)
          unfolding tail
          some_left =
              omega (
                arith,
                enough,
                ap length split_here,
                length-append (with_each (Global p) (get_or globals p 0) lines_here) (global_tests (count ls) globals (k - suc p) (suc p)),
                counted,
                w.counts,
                tests_long,
              )

          found_global : CursorIs ls g t bookmark (record { cell = m; i = 0; j = 1; p = p; q = q; k = x })
          found_global =
              record {
                ready = record { fine = fine; fits = record { in_cells = place_end; in_globals = s.fits } };
                at_most = some_left;
                rest = at_end p q x ∙ sym left_now;
                at_first = rw (e, left_now) (sym (first_at_global t p q x table_globals s.fits l s.one));
              }

          pub sought_global : SoughtAt ls g t bookmark (record { cell = m; i = 0; j = 1; p = p; q = q; k = x })
          sought_global =
              record {
                is = found_global;
                asks = rw (← e) (stood (record { cell = m; i = 0; j = 1; p = p; q = q; k = x }) (omega arith) (λ y. absurd (omega arith)));
                reads = rw (e, left_now) (reads_global t p q x table_globals s.fits l s.one);
              }
