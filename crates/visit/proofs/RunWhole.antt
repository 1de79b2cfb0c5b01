-- A run from a cursor is what the run through the cells and the run through the globals are together. Assumes nothing.
use mathlib.Core.Path.{◌≡◌, sym, ap, ◌∙◌}
use mathlib.Core.List.{List, [], ◌++◌, append-nil}
use Prim.Native.Nat.{ℕ, ◌+◌, ◌-◌, ◌*◌, ◌≤◌, ◌<◌, ◌^◌}
use native.Mathlib.Nat.{sub-zero}
use native.Mathlib.Decide.{dec_lt}
use native.Mathlib.Omega.{arith}
use lib.ListN.{length, take, length-append, length-map}
use lib.Seq.{length-take-le}
use Rattle.grid.specs.declared.Grid.{Grid}
use Rattle.grid.specs.Domain.{Lines, count}
use Rattle.tables.specs.Tables.{beside}
use Rattle.seek.specs.declared.Cursor.{Cursor}
use Rattle.visit.specs.declared.scan.Ran.{Ran}
use Rattle.seek.specs.Tests.{Pair}
use Rattle.visit.specs.Batches.{made, handed, firsts, seconds, place_numbers}
use Rattle.visit.specs.Places.{number_in}
use Rattle.seek.specs.Cursors.{cells_rest, globals_rest, rest_of}
use Rattle.visit.specs.Inside.{TestsMoved, PlacesWritten, RunAsks, CellsAsk, CellsRan, GlobalsAsk, GlobalsRan, RanAll}
use Rattle.visit.proofs.Clauses.{made_full, handed_full}
use Rattle.visit.proofs.Moves.{none_made, none_handed}
use Rattle.tables.proofs.Parts.{fit_globals}
use Rattle.seek.proofs.Passed.{here, m_fits, m_below, m_wide, m_few, m_few_both}

-- ---- a run

module _ (ls : Lines) (g : Grid) (offsets items globals : List ℕ) (count_of : ℕ) (c : Cursor) (fs ss ps : List ℕ)
    (a : RunAsks ls g (beside ls g offsets items globals count_of) c fs ss) (m : ℕ) (e : m ≡ g.rows * g.cols) where
  tests_cells : List Pair
  tests_cells = cells_rest g.cols offsets items (m - c.cell) c.cell c.i c.j

  tests_globals : List Pair
  tests_globals = globals_rest (count ls) globals (count_of - c.p) c.p c.k

  whole : rest_of (beside ls g offsets items globals count_of) c ≡ tests_cells ++ tests_globals
  unfolding rest_of tests_cells tests_globals
  whole = rw e

  long : length (rest_of (beside ls g offsets items globals count_of) c) ≡ length tests_cells + length tests_globals
  long = ap length whole ∙ length-append tests_cells tests_globals

  pub cells_asks : CellsAsk ls g.cols m offsets items c.cell c.i c.j fs ss
  unfolding tests_cells
  cells_asks =
      record {
        fine = (here ls g offsets items globals count_of a.ready.fine).lines_fine;
        table = m_fits ls g offsets items globals count_of a.ready.fine m e;
        below = m_below ls g offsets items globals count_of a.ready.fine m e;
        wide = m_wide ls g offsets items globals count_of a.ready.fine m e;
        few = m_few ls g offsets items globals count_of a.ready.fine m e;
        place = rw e a.ready.fits.in_cells;
        same = a.same;
        small = omega (arith, long, a.small);
      }

  module _ (fs₁ ss₁ ps₁ : List ℕ) (r₁ : Ran) (w₁ : CellsRan ls g.cols m offsets items c.cell c.i c.j fs ss ps fs₁ ss₁ ps₁ r₁) where
    first_moved : TestsMoved ls (tests_cells ++ tests_globals) (w₁.rest ++ tests_globals) r₁.tests (length fs) fs ss 0 fs₁ ss₁ r₁.hits
    unfolding tests_cells tests_globals
    first_moved = w₁.moved tests_globals

    pub globals_asks : GlobalsAsk ls m count_of globals c.p c.q c.k fs₁ ss₁ r₁.hits
    unfolding tests_globals
    globals_asks =
        record {
          fine = (here ls g offsets items globals count_of a.ready.fine).lines_fine;
          place = record {
            table = fit_globals (beside ls g offsets items globals count_of) (here ls g offsets items globals count_of a.ready.fine).tables;
            place = a.ready.fits.in_globals;
          };
          outputs = record { same = first_moved.second_long ∙ a.same ∙ sym first_moved.first_long; in_room = omega (arith, first_moved.in_room, first_moved.first_long) };
          small = omega (arith, long, a.small);
          few = omega (arith, m_few_both ls g offsets items globals count_of a.ready.fine m e);
        }

    module _ (fs₂ ss₂ ps₂ : List ℕ) (r₂ : Ran) (w₂ : GlobalsRan ls m count_of globals c.p c.k fs₁ ss₁ ps₁ r₁.hits fs₂ ss₂ ps₂ r₂) where
      room : length fs₁ ≡ length fs
      room = first_moved.first_long

      second_moved : TestsMoved ls tests_globals w₂.rest r₂.tests (length fs) fs₁ ss₁ r₁.hits fs₂ ss₂ r₂.hits
      unfolding tests_globals
      second_moved = rw room at w₂.moved

      -- where the cells' run stopped, the globals' goes on: either none of the cells' tests is left, or no room
      handed_on : handed ls (w₁.rest ++ tests_globals) (length fs - r₁.hits) ≡ handed ls tests_globals (length fs - r₁.hits)
      handed_on = go (dec_lt r₁.hits (length fs))
        where
          go : Dec (r₁.hits < length fs) → handed ls (w₁.rest ++ tests_globals) (length fs - r₁.hits) ≡ handed ls tests_globals (length fs - r₁.hits)
          go (yes h) = rw (w₁.ends h)
          go (no h) = let z : length fs - r₁.hits ≡ 0 = omega arith in rw (z, handed_full ls (w₁.rest ++ tests_globals)) (sym (handed_full ls tests_globals))

      made_on : made ls (w₁.rest ++ tests_globals) (length fs - r₁.hits) ≡ made ls tests_globals (length fs - r₁.hits)
      made_on = go (dec_lt r₁.hits (length fs))
        where
          go : Dec (r₁.hits < length fs) → made ls (w₁.rest ++ tests_globals) (length fs - r₁.hits) ≡ made ls tests_globals (length fs - r₁.hits)
          go (yes h) = rw (w₁.ends h)
          go (no h) = let z : length fs - r₁.hits ≡ 0 = omega arith in rw (z, made_full ls (w₁.rest ++ tests_globals)) (sym (made_full ls tests_globals))

      ends : r₂.hits < length fs → w₂.rest ≡ []
      ends h = w₂.ends (rw room h)

      no_more : handed ls w₂.rest (length fs - r₂.hits) ≡ []
      no_more = none_handed ls (length fs) w₂.rest r₂.hits ends

      no_made : made ls w₂.rest (length fs - r₂.hits) ≡ []
      no_made = none_made ls (length fs) w₂.rest r₂.hits ends

      -- what a batch hands out, and makes, of all that is left
      handed_all : List Pair
      handed_all = handed ls (tests_cells ++ tests_globals) (length fs)

      firsts_all : take r₂.hits fs₂ ≡ firsts handed_all
      unfolding handed_all
      firsts_all =
          sym
          (rw sub-zero at first_moved.firsts_are
          ∙ rw handed_on (second_moved.firsts_are ∙ rw no_more (append-nil (take r₂.hits fs₂))))

      seconds_all : take r₂.hits ss₂ ≡ seconds handed_all
      unfolding handed_all
      seconds_all =
          sym
          (rw sub-zero at first_moved.seconds_are
          ∙ rw handed_on (second_moved.seconds_are ∙ rw no_more (append-nil (take r₂.hits ss₂))))

      first_placed : PlacesWritten ls (number_in g.cols m) (tests_cells ++ tests_globals) (w₁.rest ++ tests_globals) (length fs) ps 0 ps₁ r₁.hits
      unfolding tests_cells tests_globals
      first_placed = w₁.placed tests_globals

      second_placed : PlacesWritten ls (number_in g.cols m) tests_globals w₂.rest (length fs) ps₁ r₁.hits ps₂ r₂.hits
      unfolding tests_globals
      second_placed = rw room at (w₂.placed g.cols)

      places_all : length ps ≡ length fs → take r₂.hits ps₂ ≡ place_numbers (number_in g.cols m) handed_all
      unfolding handed_all
      places_all l =
          sym
          (rw sub-zero at (first_placed.places_are l)
          ∙ rw handed_on (second_placed.places_are (first_placed.place_long ∙ l) ∙ rw no_more (append-nil (take r₂.hits ps₂))))

      tests_all : r₁.tests + r₂.tests ≡ length (made ls (tests_cells ++ tests_globals) (length fs))
      tests_all =
          let x : length (made ls (tests_cells ++ tests_globals) (length fs)) ≡ r₁.tests + length (made ls tests_globals (length fs - r₁.hits)) =
          rw sub-zero at first_moved.made_is ∙ rw made_on in
          let y : length (made ls tests_globals (length fs - r₁.hits)) ≡ r₂.tests + 0 = second_moved.made_is ∙ rw no_made in
          omega arith

      most : r₁.tests + r₂.tests ≤ length (tests_cells ++ tests_globals)
      most = omega (arith, first_moved.counts, second_moved.counts, length-append w₁.rest tests_globals)

      pub run_small : r₁.tests + r₂.tests < 2 ^ 64
      run_small = omega (arith, most, ap length whole, a.small)

      pub run_long : length fs₂ ≡ length fs
      run_long = second_moved.first_long ∙ room

      pub run_long_2 : length ss₂ ≡ length ss
      run_long_2 = second_moved.second_long ∙ first_moved.second_long

      pub run_long_3 : length ps₂ ≡ length ps
      run_long_3 = second_placed.place_long ∙ first_placed.place_long

      pub run_is : RanAll ls (beside ls g offsets items globals count_of) c fs ss ps fs₂ ss₂ ps₂ (record { tests = r₁.tests + r₂.tests; hits = r₂.hits })
      unfolding handed_all
      run_is =
          record {
            tests = rw whole tests_all;
            most = rw whole most;
            hits = rw whole (sym (length-take-le r₂.hits fs₂ (omega (arith, second_moved.in_room, run_long))) ∙ ap length firsts_all ∙ length-map handed_all (λ (p : Pair). p.first));
            first_is = rw whole firsts_all;
            second_is = rw whole seconds_all;
            places_are = λ l. rw (whole, ← e) (places_all l);
            first_long = run_long;
            second_long = run_long_2;
            place_long = run_long_3;
          }
