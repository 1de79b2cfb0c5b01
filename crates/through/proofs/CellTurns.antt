-- The turns of the run through the cells. Assumes nothing.
use mathlib.Core.Path.{◌≡◌, refl, sym, ap, ◌∙◌}
use mathlib.Core.List.{List, [], ◌++◌, append_assoc, append-nil}
use Prim.Native.Nat.{ℕ, suc, ◌+◌, ◌-◌, ◌≤◌, ◌<◌, ◌^◌}
use native.Mathlib.Omega.{arith}
use lib.ListN.{length, length-append}
use lib.Ieee.{Float}
use Rattle.grid.specs.Domain.{Lines, count}
use Rattle.seek.specs.declared.Place.{Place}
use Rattle.seek.specs.Tests.{Pair, place_of}
use Rattle.through.specs.declared.rows.ListRan.{ListRan}
use Rattle.listed.specs.Lists.{list_by, list_from, tests_of_cells, cells_from}
use Rattle.through.specs.Inside.{Goes, SameScratch, ListAsks, ListRanIs, CellsAsk, CellsRanIs}
use Rattle.through.proofs.Goings.{goes_none, goes_then}
use Rattle.listed.proofs.ListLaws.{from_length}
use Rattle.listed.proofs.AsIs.{list_increases}
use Rattle.listed.proofs.CellLaws.{from_at, from_next, from_done, CellsPassed}

-- ---- the run through the cells

pub record CellsRun (ls : Lines) (cols m : ℕ) (offsets items : List ℕ) (cell₀ i₀ j₀ : ℕ) (bs : List Float) (marks fs ss : List ℕ)
    (bs' : List Float) (marks' fs' ss' : List ℕ) (cell i j tests hits : ℕ) : Type 0 where
  pub asks : CellsAsk ls cols m offsets items cell₀ i₀ j₀ bs marks fs ss
  pub goes : (later : List Pair)
      → Goes ls (cells_from cols (list_by (count ls) offsets items) (m - cell₀) cell₀ i₀ j₀ ++ later)
      (cells_from cols (list_by (count ls) offsets items) (m - cell) cell i j ++ later) tests (length fs) fs ss 0 fs' ss' hits
  pub same : SameScratch bs marks bs' marks'

pub cells_run : (ls : Lines) (cols m : ℕ) (offsets items : List ℕ) (cell i j : ℕ) (bs : List Float) (marks fs ss : List ℕ) → CellsAsk ls cols m offsets items cell i j bs marks fs ss
    → CellsRun ls cols m offsets items cell i j bs marks fs ss bs marks fs ss cell i j 0 0
cells_run ls cols m offsets items cell i j bs marks fs ss a =
    record {
      asks = a;
      goes = λ later. goes_none ls (length fs) _ fs ss 0 a.lent.in_room;
      same = record { boxes = refl; bytes = refl };
    }

module _ (ls : Lines) (cols m : ℕ) (offsets items : List ℕ) (cell₀ i₀ j₀ : ℕ) (bs : List Float) (marks fs ss : List ℕ)
    (bs' : List Float) (marks' fs' ss' : List ℕ) (cell i j tests hits : ℕ)
    (s : CellsRun ls cols m offsets items cell₀ i₀ j₀ bs marks fs ss bs' marks' fs' ss' cell i j tests hits) where
  L : ℕ → List ℕ
  L = list_by (count ls) offsets items

  pub cells_first_long : length fs' ≡ length fs
  cells_first_long = (s.goes []).moved.first_long

  pub cells_second_long : length ss' ≡ length ss
  cells_second_long = (s.goes []).moved.second_long

  unfolded : (later : List Pair) → Goes ls (cells_from cols L (m - cell₀) cell₀ i₀ j₀ ++ later) (cells_from cols L (m - cell) cell i j ++ later) tests (length fs) fs ss 0 fs' ss' hits
  unfolding L
  unfolded = s.goes

  counts : tests + length (cells_from cols L (m - cell) cell i j) ≡ length (cells_from cols L (m - cell₀) cell₀ i₀ j₀)
  counts = rw (append-nil, append-nil) at (unfolded []).moved.counts

  small : length (cells_from cols L (m - cell₀) cell₀ i₀ j₀) < 2 ^ 64
  unfolding L
  small = s.asks.small

  pub cells_over : m ≤ cell → CellsRanIs ls cols m offsets items cell₀ i₀ j₀ fs ss fs' ss' (record { cell = cell; i = i; j = j; tests = tests; hits = hits })
  unfolding L
  cells_over h = record { goes = s.goes; ends = λ l. from_done cols L m cell i j h }

  module _ (h : cell < m) (xs : List ℕ) (e : xs ≡ list_by (count ls) offsets items cell) where
    here : (a b : ℕ) → cells_from cols L (m - cell) cell a b ≡ list_from (place_of cols cell) xs a b ++ tests_of_cells cols L (m - suc cell) (suc cell)
    unfolding L
    here a b = from_at cols L m cell h a b ∙ rw e

    here_then : (a b : ℕ) (later : List Pair) → cells_from cols L (m - cell) cell a b ++ later ≡ list_from (place_of cols cell) xs a b ++ (tests_of_cells cols L (m - suc cell) (suc cell) ++ later)
    here_then a b later = ap (λ (l : List Pair). l ++ later) (here a b) ∙ append_assoc (list_from (place_of cols cell) xs a b) (tests_of_cells cols L (m - suc cell) (suc cell)) later

    list_long : (pl : Place) → length (list_from pl xs i j) ≡ length (list_from (place_of cols cell) xs i j)
    list_long pl = from_length pl (place_of cols cell) xs i j

    pub cells_list : ListAsks ls xs i j bs' marks' fs' ss' hits
    cells_list =
        record {
          lent = record { alike = s.asks.lent.alike; same = cells_second_long ∙ s.asks.lent.same ∙ sym cells_first_long; in_room = omega (arith, (s.goes []).moved.in_room, cells_first_long) };
          scratch = record {
            boxes = record { few = omega arith; long = omega (arith, s.same.boxes, s.asks.scratch.boxes.long) };
            bytes = omega (arith, s.same.bytes, s.asks.scratch.bytes);
          };
          below = rw e (list_increases (count ls) offsets items cell).below;
          small = λ pl. omega (arith, list_long pl, ap length (here i j), length-append (list_from (place_of cols cell) xs i j) (tests_of_cells cols L (m - suc cell) (suc cell)), counts, small);
        }

    module _ (bs'' : List Float) (marks'' fs'' ss'' : List ℕ) (r : ListRan) (w : ListRanIs ls xs i j fs' ss' hits fs'' ss'' r)
        (k : SameScratch bs' marks' bs'' marks'') where
      step : (later : List Pair) → Goes ls (cells_from cols L (m - cell) cell i j ++ later) (cells_from cols L (m - cell) cell r.i r.j ++ later) r.tests (length fs) fs' ss' hits fs'' ss'' r.hits
      step later =
          rw (here_then i j later, here_then r.i r.j later) (rw cells_first_long at (w.goes (place_of cols cell) (tests_of_cells cols L (m - suc cell) (suc cell) ++ later)))

      both : (later : List Pair) → Goes ls (cells_from cols L (m - cell₀) cell₀ i₀ j₀ ++ later) (cells_from cols L (m - cell) cell r.i r.j ++ later) (tests + r.tests) (length fs) fs ss 0 fs'' ss'' r.hits
      both later = goes_then ls (length fs) (unfolded later) (step later)

      pub cells_small : tests + r.tests < 2 ^ 64
      cells_small = omega (arith, rw (append-nil, append-nil) at (both []).moved.counts, small)

      pub cells_first_kept : length fs'' ≡ length fs
      cells_first_kept = (both []).moved.first_long

      pub cells_second_kept : length ss'' ≡ length ss
      cells_second_kept = (both []).moved.second_long

      kept : SameScratch bs marks bs'' marks''
      kept =
          record {
            boxes = k.boxes ∙ s.same.boxes;
            bytes = k.bytes ∙ s.same.bytes;
          }

      pub cells_kept : SameScratch bs marks bs'' marks''
      cells_kept = kept

      pub cells_full : length fs'' ≤ r.hits → CellsRanIs ls cols m offsets items cell₀ i₀ j₀ fs ss fs'' ss'' (record { cell = cell; i = r.i; j = r.j; tests = tests + r.tests; hits = r.hits })
      unfolding L
      cells_full l = record { goes = both; ends = λ v. absurd (omega (arith, cells_first_kept)) }

      pub cells_turn : r.hits < length fs'' → CellsRun ls cols m offsets items cell₀ i₀ j₀ bs marks fs ss bs'' marks'' fs'' ss'' (cell + 1) 0 1 (tests + r.tests) r.hits
      unfolding L
      cells_turn l =
          let d : list_from (place_of cols cell) (L cell) r.i r.j ≡ [] = rw e at (w.ends (omega (arith, cells_first_kept, cells_first_long)) (place_of cols cell)) in
          record {
            asks = s.asks;
            goes = λ later. rw (from_next cols L m cell h r.i r.j d) at (both later);
            same = kept;
          }

pub cells_passed : (ls : Lines) (cols m : ℕ) (offsets items : List ℕ) (cell₀ i₀ j₀ : ℕ) (bs : List Float) (marks fs ss : List ℕ)
    (bs' : List Float) (marks' fs' ss' : List ℕ) (cell c tests hits : ℕ)
    → CellsRun ls cols m offsets items cell₀ i₀ j₀ bs marks fs ss bs' marks' fs' ss' cell 0 1 tests hits → CellsPassed m offsets cell c
    → CellsRun ls cols m offsets items cell₀ i₀ j₀ bs marks fs ss bs' marks' fs' ss' c 0 1 tests hits
cells_passed ls cols m offsets items cell₀ i₀ j₀ bs marks fs ss bs' marks' fs' ss' cell c tests hits s p =
    record {
      asks = s.asks;
      goes = λ later. rw (p.same cols (count ls) items) at (s.goes later);
      same = s.same;
    }
