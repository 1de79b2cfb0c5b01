-- A full visit: the cells, and then the globals. Assumes nothing.
use mathlib.Core.Path.{◌≡◌, refl}
use mathlib.Core.Bool.{Bool}
use mathlib.Core.List.{List}
use Prim.Native.Nat.{ℕ, ◌*◌, ◌<◌}
use native.Mathlib.Nat.{div-add-mod'}
use native.Mathlib.Omega.{arith}
use lib.ListN.{length}
use lib.Seq.{length-take-le}
use Rattle.grid.specs.declared.Grid.{Grid}
use Rattle.tables.specs.Tables.{Tables, tables, cells, list_of, globals_of}
use Rattle.seek.specs.declared.Place.TheVariants.{Global}
use Rattle.seek.specs.Tests.{pair, place_of, tests_of}
use Rattle.seek.proofs.Lengths.{length_increasing}
use Rattle.tables.proofs.Parts.{fit_cells, fit_globals}
use Rattle.seek.proofs.Standing.{has_columns}
use Rattle.by_line.proofs.Turns.{counted_none}
use Rattle.by_line.proofs.Room.{Passed, passed, table_walks, by_line_total}
use Rattle.first_tests.specs.Firsts.{through, is_first, keeps}
use Rattle.first_tests.specs.InsideScan.{HandedOut, keep_at, PlaceAsks, CellsAsk, CellsDone, GlobalsAsk, GlobalsDone, RunAsks}
use Rattle.first_tests.proofs.Writes.{grown_then}

-- ---- which tests are the first

-- the place of cell c has c cells before it
pub through_cell : (t : Tables) (c : ℕ) → 0 < t.cols → through t (place_of t.cols c) ≡ c
unfolding through place_of
through_cell t c h = div-add-mod' c t.cols

module _ (chosen : ℕ → ℕ → Bool) (t : Tables) where
  pub keeps_cell : (c : ℕ) → 0 < t.cols → (a b : ℕ) → keeps chosen t (pair (place_of t.cols c) a b) ≡ keep_at chosen (list_of t) c a b
  unfolding keeps is_first keep_at
  keeps_cell c h a b = rw (through_cell t c h)

  pub keeps_global : (p a b : ℕ) → keeps chosen t (pair (Global p) a b) ≡ keep_at chosen (list_of t) (cells t) a b
  unfolding keeps is_first keep_at through
  keeps_global p a b = refl

-- ---- the run

module _ {g : Grid} {n : ℕ} {offsets items globals : List ℕ} {k : ℕ} {starts listing counts : List ℕ} (a : RunAsks g (tables g n offsets items globals k) starts listing counts) where
  abbrev t : Tables
  t = tables g n offsets items globals k

  s : Passed g t
  s = passed g t a.fine

  pub run_cells : CellsAsk n (g.rows * g.cols) offsets items starts listing counts
  run_cells =
      record {
        table =
            record {
              fits = fit_cells t s.fits;
              walks = table_walks t s.fits;
              few_lines = omega (arith, s.few);
              few_cells = omega (arith, s.shape.counts.cells);
            };
        few_cells = s.shape.counts.cells;
        few_lines = s.few;
        listed =
            record {
              table = record { items_are = a.listing_is; offsets_are = a.starts_are };
              starts_long = a.starts_long;
              listing_long = omega (arith, by_line_total t s.fits, s.fits.lists.within, a.listing_long);
              at_most = omega arith;
              counts_long = a.counts_long;
              counted = counted_none (list_of t) (length counts) a.counts_are;
            };
      }

  module _ {chosen : ℕ → ℕ → Bool} {counts' fs ss fs₁ ss₁ : List ℕ} {hits₁ : ℕ} (d : CellsDone chosen n (g.rows * g.cols) offsets items starts listing counts' fs ss fs₁ ss₁ hits₁) where
    here : PlaceAsks n starts listing counts'
    here = record { W = list_of t; m = g.rows * g.cols; c = g.rows * g.cols; listed = d.listed }

    pub run_globals : GlobalsAsk n n globals k starts listing counts' hits₁
    run_globals =
        record {
          place = here;
          lines = refl;
          few = s.few;
          most = omega (arith, length_increasing n (globals_of t) s.fits.globals, length-take-le k globals s.fits.counted, s.few);
          fits = fit_globals t s.fits;
          small = omega (arith, d.few);
        }

    -- THE VISIT: the tests that are the first of their pairs and pass are those that stand in the outputs
    pub run_done : {fs₂ ss₂ : List ℕ} {hits₂ : ℕ} → GlobalsDone chosen n globals k starts listing counts' fs₁ ss₁ hits₁ fs₂ ss₂ hits₂ → HandedOut (keeps chosen t) (tests_of t) fs ss 0 fs₂ ss₂ hits₂
    unfolding tests_of here
    run_done e =
        grown_then
        (d.made g.cols (keeps chosen t) (λ c l x y. keeps_cell chosen t c (has_columns g.rows g.cols (omega arith)) x y))
        (e.made here (keeps chosen t) (λ p x y. keeps_global chosen t p x y))
