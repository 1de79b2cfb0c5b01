-- The laws of the report of standing tables. Assumes nothing.
use mathlib.Core.Path.{◌≡◌, refl, sym, ap, ◌∙◌}
use mathlib.Core.List.{List, ◌++◌}
use Prim.Native.Nat.{ℕ, suc, ◌+◌, ◌/◌, ◌%◌, ◌<◌}
use native.Mathlib.Numerals.{add-one}
use native.Mathlib.Omega.{arith}
use Rattle.tables.specs.Tables.{Tables, cells, list_of, part_in}
use Rattle.report.specs.Pages.{Page, Puts}
use Rattle.report.specs.Lines.{cell_line}
use Rattle.report.proofs.Putting.{puts_none, puts_then, puts_text}
use Rattle.tables.proofs.Parts.{part_fits}
use Rattle.seek.proofs.Standing.{has_columns}
use Rattle.chain.specs.Printed.{cell_lines}
use Rattle.chain.specs.Inside.{ShowCellAsks}

pub cells_none : (t : Tables) (p : Page) → Puts (cell_lines t 0) p p
unfolding cell_lines
cells_none t p = puts_none p

cells_suc : (t : Tables) (c : ℕ) → cell_lines t (suc c) ≡ cell_lines t c ++ cell_line (c / t.cols) (c % t.cols) (list_of t c)
unfolding cell_lines
cells_suc t c = refl

pub cells_more : (t : Tables) (c : ℕ) {p q r : Page} → Puts (cell_lines t c) p q → Puts (cell_line (c / t.cols) (c % t.cols) (list_of t c)) q r → Puts (cell_lines t (c + 1)) p r
cells_more t c f g = puts_text (sym (ap (cell_lines t) (add-one c) ∙ cells_suc t c)) (puts_then f g)

pub cells_all : (t : Tables) (c : ℕ) {p q : Page} → c ≡ cells t → Puts (cell_lines t c) p q → Puts (cell_lines t (cells t)) p q
cells_all t c e f = puts_text (ap (cell_lines t) e) f

-- a cell that is shown: there are columns, and its list is what the code finds
module _ (t : Tables) (c : ℕ) (a : ShowCellAsks t c) where
  pub cell_cols : 0 < t.cols
  cell_cols = has_columns t.rows t.cols (omega (arith, a.inside))

  pub cell_list : {s : List ℕ} (cell : ℕ) → cell ≡ c → s ≡ part_in t.offsets t.items cell → s ≡ list_of t c
  cell_list cell e q = q ∙ ap (part_in t.offsets t.items) e ∙ part_fits a.lists c a.inside
