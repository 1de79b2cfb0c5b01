-- The scan of a row, and the turns of the runs through the cells and through the globals: a place is settled, its row is scanned. Assumes nothing.
use Rattle.std.specs.Prelude.{Some, None, Option}
use mathlib.Core.Path.{◌≡◌, refl, sym, ap, subst, ◌∙◌}
use mathlib.Core.List.{List, [], ◌++◌, append-nil}
use Prim.Native.Nat.{ℕ, suc, ◌+◌, ◌-◌, ◌≤◌, ◌<◌, ◌^◌}
use native.Mathlib.Omega.{arith}
use lib.ListN.{length, get_or, take, drop}
use Rattle.grid.specs.Domain.{Lines, count}
use Rattle.slices.proofs.Members.{below_at}
use Rattle.tables.specs.Tables.{list_in}
use Rattle.tables.proofs.Facts.{part_slice}
use Rattle.seek.specs.declared.Place.{Place}
use Rattle.seek.specs.declared.Place.TheVariants.{Global}
use Rattle.visit.specs.declared.cursor.CellAt.{CellAt}
use Rattle.visit.specs.declared.cursor.GlobalAt.{GlobalAt}
use Rattle.visit.specs.declared.scan.Row.{Row}
use Rattle.visit.specs.declared.scan.ListEnd.{ListEnd}
use Rattle.visit.specs.declared.scan.LinesEnd.{LinesEnd}
use Rattle.seek.specs.Tests.{Pair, with_each, pairs, place_of, cell_tests, others, global_tests}
use Rattle.seek.specs.Cursors.{rest_in, cells_rest, globals_rest, PlaceFits, LineFits}
use Rattle.seek.specs.Inside.{numbers}
use Rattle.visit.specs.Inside.{row_of, CellIs, CellFound, GlobalIs, GlobalFound, LineAsks, TestsMoved, HandedAt, PlacesWritten, PutIs, ListAsks, InList, LinesAsk, InLines, part, CellRowAsks, InCellRow, GlobalRowAsks, InGlobalRow, CellsAsk, CellsRan, GlobalsAsk, GlobalsRan}
use Rattle.seek.proofs.Clauses.{regroup}
use Rattle.seek.proofs.CellRests.{length_list, rest_at}
use Rattle.seek.proofs.GlobalRests.{grest_run, stop_most, line_further}
use Rattle.visit.specs.Places.{number_in}
use Rattle.visit.proofs.Moves.{moved_none, moved_then}
use Rattle.visit.proofs.Placing.{number_of_cell, placed_none, placed_then, placed_row}

-- what was found, where it is a place
pub cell_at : {m : ℕ} {offsets items : List ℕ} {cell i j : ℕ} {a : CellAt} {r : Option CellAt} → r ≡ Some a → CellFound m offsets items cell i j r → CellIs m offsets items cell i j a.cell a.i a.j a.from a.to
cell_at {m} {offsets} {items} {cell} {i} {j} e f = subst (CellFound m offsets items cell i j) e f

pub global_at : {n m : ℕ} {globals : List ℕ} {p q k : ℕ} {a : GlobalAt} {r : Option GlobalAt} → r ≡ Some a → GlobalFound n m globals p q k r → GlobalIs n m globals p q k a.p a.q a.k a.stop
global_at {n} {m} {globals} {p} {q} {k} e f = subst (GlobalFound n m globals p q k) e f

-- ---- a row of a cell's list, which is a part of the items

module _ {ls : Lines} {cols cell : ℕ} {items : List ℕ} {from to i j : ℕ} {fs ss : List ℕ} {hits : ℕ} (p : CellRowAsks ls cols cell items from to i j fs ss hits) where
  pub entry_asks : LineAsks ls (get_or (part items from to) i 0)
  entry_asks = record { fine = p.fine; one = below_at (count ls) (part items from to) i p.below p.one }

  module _ {row : Row} {pl : Place} (e : row ≡ row_of ls pl (get_or (part items from to) i 0)) where
    pub list_asks : ListAsks ls row (part items from to) j fs ss hits
    list_asks = record { row_fits = record { fine = p.fine; held = rw e }; below = p.below; at = p.at; outputs = p.outputs }

    pub in_cell_row : {ps fs' ss' ps' : List ℕ} {r : ListEnd} → pl ≡ place_of cols cell → InList ls row (part items from to) j fs ss hits fs' ss' r → PutIs ps hits r.hits cell ps'
        → InCellRow ls cols cell (part items from to) i j fs ss ps hits fs' ss' ps' r
    in_cell_row d w o = record { in_list = rw (e, d) at w; put = o }

-- ---- a run of a global

module _ {ls : Lines} {cells : ℕ} {globals : List ℕ} {p k stop : ℕ} {fs ss : List ℕ} {hits : ℕ} (w : GlobalRowAsks ls cells globals p k stop fs ss hits)
    {row : Row} (e : row ≡ row_of ls (Global p) (get_or globals p 0)) where
  pub lines_asks : LinesAsk ls row k stop fs ss hits
  lines_asks = record { row_fits = record { fine = w.line.fine; held = rw e }; below = w.below; at = w.at; outputs = w.outputs }

  pub in_global_row : {ps fs' ss' ps' : List ℕ} {r : LinesEnd} → InLines ls row k stop fs ss hits fs' ss' r → PutIs ps hits r.hits (cells + p) ps'
      → InGlobalRow ls cells globals p k stop fs ss ps hits fs' ss' ps' r
  in_global_row v o = record { in_lines = rw e at v; put = o }

-- ---- the run through the cells

pub record CellsRun (ls : Lines) (cols m : ℕ) (offsets items : List ℕ) (cell₀ i₀ j₀ : ℕ) (fs ss ps : List ℕ) (fs' ss' ps' : List ℕ) (cell i j tests hits : ℕ) : Type 0 where
  pub place : PlaceFits m items cell i j
  pub moved : (later : List Pair)
      → TestsMoved ls (cells_rest cols offsets items (m - cell₀) cell₀ i₀ j₀ ++ later) (cells_rest cols offsets items (m - cell) cell i j ++ later) tests (length fs) fs ss 0 fs' ss' hits
  pub placed : (later : List Pair)
      → PlacesWritten ls (number_in cols m) (cells_rest cols offsets items (m - cell₀) cell₀ i₀ j₀ ++ later) (cells_rest cols offsets items (m - cell) cell i j ++ later) (length fs) ps 0 ps' hits

pub cells_run : {ls : Lines} {cols m : ℕ} {offsets items : List ℕ} {cell i j : ℕ} {fs ss ps : List ℕ} → CellsAsk ls cols m offsets items cell i j fs ss → CellsRun ls cols m offsets items cell i j fs ss ps fs ss ps cell i j 0 0
cells_run {ls} {cols} {m} {offsets} {items} {cell} {i} {j} {fs} {ss} {ps} a =
    record {
      place = a.place;
      moved = λ later. moved_none ls (length fs) _ fs ss 0 (omega arith);
      placed = λ later. placed_none ls (length fs) (number_in cols m) _ ps 0;
    }

module _ {ls : Lines} {cols m : ℕ} {offsets items : List ℕ} {cell₀ i₀ j₀ : ℕ} {fs ss ps : List ℕ} (q : CellsAsk ls cols m offsets items cell₀ i₀ j₀ fs ss)
    {fs' ss' ps' : List ℕ} {cell i j tests hits : ℕ} (s : CellsRun ls cols m offsets items cell₀ i₀ j₀ fs ss ps fs' ss' ps' cell i j tests hits) where
  first_long : length fs' ≡ length fs
  first_long = (s.moved []).first_long

  -- how many tests were made, and how many are left
  counts : tests + length (cells_rest cols offsets items (m - cell) cell i j) ≡ length (cells_rest cols offsets items (m - cell₀) cell₀ i₀ j₀)
  counts = rw (append-nil, append-nil) at (s.moved []).counts

  pub cells_full : length fs' ≤ hits → CellsRan ls cols m offsets items cell₀ i₀ j₀ fs ss ps fs' ss' ps' (record { tests = tests; hits = hits })
  cells_full h = record { rest = cells_rest cols offsets items (m - cell) cell i j; moved = s.moved; placed = s.placed; ends = λ l. absurd (omega (arith, first_long)) }

  pub cells_over : {r : (Option CellAt)} → r ≡ None → CellFound m offsets items cell i j r → CellsRan ls cols m offsets items cell₀ i₀ j₀ fs ss ps fs' ss' ps' (record { tests = tests; hits = hits })
  cells_over e f = record { rest = cells_rest cols offsets items (m - cell) cell i j; moved = s.moved; placed = s.placed; ends = λ l. subst (CellFound m offsets items cell i j) e f cols }

  module _ {a b d from to : ℕ} (f : CellIs m offsets items cell i j a b d from to) where
    -- its list, as the part of the items
    part_is : part items from to ≡ list_in offsets items a
    part_is = part_slice from to items ∙ rw (f.begins, f.ends)

    long : length (list_in offsets items a) ≡ to - from
    long = length_list m offsets items q.table a f.inside ∙ rw (f.begins, f.ends)

    part_long : length (part items from to) ≡ to - from
    part_long = ap length part_is ∙ long

    within : to ≤ length items
    within = omega (arith, f.ends, q.table.within (suc a) f.inside)

    pub cell_row_asks : hits < length fs' → CellRowAsks ls cols a items from to b d fs' ss' hits
    cell_row_asks l =
        record {
          fine = q.fine;
          wide = q.wide (omega (arith, f.inside));
          few = omega (arith, f.inside, q.few);
          rises = omega (arith, f.one);
          within = within;
          below = rw part_is (q.below a f.inside);
          one = omega (arith, part_long, f.one, f.fits.later);
          at = omega (arith, part_long, f.one);
          outputs = record { same = (s.moved []).second_long ∙ q.same ∙ sym first_long; in_room = omega arith };
        }

    -- what is left at row b, from entry x on
    left_at : (x : ℕ) (later : List Pair)
        → cells_rest cols offsets items (m - a) a b x ++ later
        ≡ with_each (place_of cols a) (get_or (list_in offsets items a) b 0) (drop x (list_in offsets items a))
        ++ (pairs (place_of cols a) (drop (suc b) (list_in offsets items a)) ++ (cell_tests cols offsets items (m - suc a) (suc a) ++ later))
    unfolding rest_in
    left_at x later =
        ap (λ (l : List Pair). l ++ later) (rest_at cols offsets items m a f.inside b x)
        ∙ regroup (with_each (place_of cols a) (get_or (list_in offsets items a) b 0) (drop x (list_in offsets items a)))
        (pairs (place_of cols a) (drop (suc b) (list_in offsets items a))) (cell_tests cols offsets items (m - suc a) (suc a)) later

    module _ {fs'' ss'' ps'' : List ℕ} {r : ListEnd} (w : InCellRow ls cols a (part items from to) b d fs' ss' ps' hits fs'' ss'' ps'' r) where
      scanned : InList ls (row_of ls (place_of cols a) (get_or (list_in offsets items a) b 0)) (list_in offsets items a) d fs' ss' hits fs'' ss'' r
      scanned = rw part_is at w.in_list

      -- the tests of the cell behind the row
      behind : List Pair → List Pair
      behind later = pairs (place_of cols a) (drop (suc b) (list_in offsets items a)) ++ (cell_tests cols offsets items (m - suc a) (suc a) ++ later)

      step : (later : List Pair) → TestsMoved ls (cells_rest cols offsets items (m - cell) cell i j ++ later) (cells_rest cols offsets items (m - a) a b r.j ++ later) (r.j - d) (length fs) fs' ss' hits fs'' ss'' r.hits
      unfolding behind
      step later = rw (f.same cols, left_at d later, left_at r.j later) (rw first_long at (scanned.moved (behind later)))

      -- the number of the cell is put beside what the row handed out
      placed_step : (later : List Pair)
          → PlacesWritten ls (number_in cols m) (cells_rest cols offsets items (m - cell) cell i j ++ later) (cells_rest cols offsets items (m - a) a b r.j ++ later) (length fs) ps' hits ps'' r.hits
      unfolding behind
      placed_step later =
          let h : HandedAt ls (place_of cols a) (cells_rest cols offsets items (m - cell) cell i j ++ later) (cells_rest cols offsets items (m - a) a b r.j ++ later) (length fs) hits r.hits =
          rw (f.same cols, left_at d later, left_at r.j later) (rw first_long at (scanned.handed_at (behind later))) in
          placed_row ls (length fs) (number_in cols m) _ _ ps' hits ps'' r.hits (place_of cols a) a h (step later).in_room (number_of_cell cols m a) w.put

      pub cells_turn : CellsRun ls cols m offsets items cell₀ i₀ j₀ fs ss ps fs'' ss'' ps'' a b r.j (tests + (r.j - d)) r.hits
      cells_turn =
          record {
            place = record {
              at_most = f.fits.at_most;
              later = omega (arith, f.fits.later, scanned.from);
              small = omega (arith, scanned.to, long, within);
            };
            moved = λ later. moved_then ls (length fs) _ _ _ tests (r.j - d) fs ss 0 fs' ss' hits fs'' ss'' r.hits (s.moved later) (step later);
            placed = λ later. placed_then ls (length fs) (number_in cols m) _ _ ps 0 ps' hits _ ps'' r.hits (s.placed later) (placed_step later);
          }

      -- fewer are left
      pub cells_less : hits < length fs' → length (cells_rest cols offsets items (m - a) a b r.j) < length (cells_rest cols offsets items (m - cell) cell i j)
      cells_less l = omega (arith, rw (append-nil, append-nil) at (step []).counts, scanned.some l (omega (arith, long, f.one)))

      -- and the sum of the tests fits
      pub cells_small : tests + (r.j - d) < 2 ^ 64
      cells_small = omega (arith, counts, rw (append-nil, append-nil) at (step []).counts, q.small)

-- ---- the run through the globals

pub record GlobalsRun (ls : Lines) (cells m : ℕ) (globals : List ℕ) (p₀ k₀ : ℕ) (fs ss ps : List ℕ) (hits₀ : ℕ) (fs' ss' ps' : List ℕ) (p q k tests hits : ℕ) : Type 0 where
  pub place : LineFits (count ls) m globals p q k
  pub moved : TestsMoved ls (globals_rest (count ls) globals (m - p₀) p₀ k₀) (globals_rest (count ls) globals (m - p) p k) tests (length fs) fs ss hits₀ fs' ss' hits
  pub placed : (cols : ℕ) → PlacesWritten ls (number_in cols cells) (globals_rest (count ls) globals (m - p₀) p₀ k₀) (globals_rest (count ls) globals (m - p) p k) (length fs) ps hits₀ ps' hits

pub globals_run : {ls : Lines} {cells m : ℕ} {globals : List ℕ} {p q k : ℕ} {fs ss ps : List ℕ} {hits : ℕ} → GlobalsAsk ls cells m globals p q k fs ss hits → GlobalsRun ls cells m globals p k fs ss ps hits fs ss ps p q k 0 hits
globals_run {ls} {cells} {m} {globals} {p} {q} {k} {fs} {ss} {ps} {hits} a =
    record {
      place = a.place.place;
      moved = moved_none ls (length fs) _ fs ss hits a.outputs.in_room;
      placed = λ cols. placed_none ls (length fs) (number_in cols cells) _ ps hits;
    }

module _ {ls : Lines} {cells m : ℕ} {globals : List ℕ} {p₀ q₀ k₀ : ℕ} {fs ss ps : List ℕ} {hits₀ : ℕ} (w : GlobalsAsk ls cells m globals p₀ q₀ k₀ fs ss hits₀)
    {fs' ss' ps' : List ℕ} {p q k tests hits : ℕ} (s : GlobalsRun ls cells m globals p₀ k₀ fs ss ps hits₀ fs' ss' ps' p q k tests hits) where
  firsts_long : length fs' ≡ length fs
  firsts_long = s.moved.first_long

  pub globals_full : length fs' ≤ hits → GlobalsRan ls cells m globals p₀ k₀ fs ss ps hits₀ fs' ss' ps' (record { tests = tests; hits = hits })
  globals_full h = record { rest = globals_rest (count ls) globals (m - p) p k; moved = s.moved; placed = s.placed; ends = λ l. absurd (omega (arith, firsts_long)) }

  pub globals_over : {r : (Option GlobalAt)} → r ≡ None → GlobalFound (count ls) m globals p q k r → GlobalsRan ls cells m globals p₀ k₀ fs ss ps hits₀ fs' ss' ps' (record { tests = tests; hits = hits })
  globals_over e f = record { rest = globals_rest (count ls) globals (m - p) p k; moved = s.moved; placed = s.placed; ends = λ l. subst (GlobalFound (count ls) m globals p q k) e f }

  module _ {a b d stop : ℕ} (f : GlobalIs (count ls) m globals p q k a b d stop) where
    pub global_row_asks : hits < length fs' → GlobalRowAsks ls cells globals a d stop fs' ss' hits
    global_row_asks l =
        record {
          line = record { fine = w.fine; one = w.place.table.below a f.inside };
          one = omega (arith, f.inside, w.place.table.long);
          few = omega (arith, f.inside, w.few);
          below = omega (arith, f.stops, stop_most (count ls) m globals w.place.table a b d f.fits f.inside);
          at = omega (arith, f.one);
          outputs = record { same = s.moved.second_long ∙ w.outputs.same ∙ sym firsts_long; in_room = omega arith };
        }

    -- what is left from line x of the run on
    run_at : (x : ℕ) → d ≤ x → x ≤ stop
        → globals_rest (count ls) globals (m - a) a x
        ≡ with_each (Global a) (get_or globals a 0) (numbers (stop - x) x)
        ++ (with_each (Global a) (get_or globals a 0) (others (take (suc a) globals) (count ls - stop) stop) ++ global_tests (count ls) globals (m - suc a) (suc a))
    run_at x h l = grest_run (count ls) m globals w.place.table a b d f.fits f.inside stop x f.stops h l

    module _ {fs'' ss'' ps'' : List ℕ} {r : LinesEnd} (v : InGlobalRow ls cells globals a d stop fs' ss' ps' hits fs'' ss'' ps'' r) where
      -- the tests behind the run
      beyond : List Pair
      beyond = with_each (Global a) (get_or globals a 0) (others (take (suc a) globals) (count ls - stop) stop) ++ global_tests (count ls) globals (m - suc a) (suc a)

      run_step : TestsMoved ls (globals_rest (count ls) globals (m - p) p k) (globals_rest (count ls) globals (m - a) a r.k) (r.k - d) (length fs) fs' ss' hits fs'' ss'' r.hits
      unfolding beyond
      run_step =
          let h : d ≤ stop = omega (arith, f.one) in
          rw (f.same, run_at d (omega arith) h, run_at r.k v.in_lines.from v.in_lines.to) (rw firsts_long at (v.in_lines.moved beyond))

      placed_run : (cols : ℕ)
          → PlacesWritten ls (number_in cols cells) (globals_rest (count ls) globals (m - p) p k) (globals_rest (count ls) globals (m - a) a r.k) (length fs) ps' hits ps'' r.hits
      unfolding number_in beyond
      placed_run cols =
          let h : d ≤ stop = omega (arith, f.one) in
          let e : HandedAt ls (Global a) (globals_rest (count ls) globals (m - p) p k) (globals_rest (count ls) globals (m - a) a r.k) (length fs) hits r.hits =
          rw (f.same, run_at d (omega arith) h, run_at r.k v.in_lines.from v.in_lines.to) (rw firsts_long at (v.in_lines.handed_at beyond)) in
          placed_row ls (length fs) (number_in cols cells) _ _ ps' hits ps'' r.hits (Global a) (cells + a) e run_step.in_room refl v.put

      pub globals_turn : GlobalsRun ls cells m globals p₀ k₀ fs ss ps hits₀ fs'' ss'' ps'' a b r.k (tests + (r.k - d)) r.hits
      globals_turn =
          record {
            place = line_further (count ls) m globals w.place.table a b d f.fits f.inside r.k v.in_lines.from (omega (arith, v.in_lines.to, f.stops));
            moved = moved_then ls (length fs) _ _ _ tests (r.k - d) fs ss hits₀ fs' ss' hits fs'' ss'' r.hits s.moved run_step;
            placed = λ cols. placed_then ls (length fs) (number_in cols cells) _ _ ps hits₀ ps' hits _ ps'' r.hits (s.placed cols) (placed_run cols);
          }

      pub globals_less : hits < length fs' → length (globals_rest (count ls) globals (m - a) a r.k) < length (globals_rest (count ls) globals (m - p) p k)
      globals_less l = omega (arith, run_step.counts, v.in_lines.some l f.one)

      pub globals_small : tests + (r.k - d) < 2 ^ 64
      globals_small = omega (arith, s.moved.counts, run_step.counts, w.small)
