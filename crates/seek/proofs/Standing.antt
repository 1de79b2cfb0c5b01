-- What lines, a grid and tables say that pass the checks of a visit. Assumes nothing.
use Rattle.std.specs.Prelude.{Ok}
use mathlib.Core.Path.{◌≡◌}
use Prim.Native.Nat.{ℕ, zero, suc, ◌*◌, ◌≤◌, ◌<◌}
use native.Mathlib.Nat.{mul-zero}
use native.Mathlib.Omega.{arith}
use Rattle.slices.specs.Lists.{Below}
use Rattle.refusals.proofs.Checks.{unless_fine, and_then_left, and_then_right}
use Rattle.grid.specs.declared.Grid.{Grid}
use Rattle.grid.specs.Domain.{Lines, lines_check, grid_check, fit}
use Rattle.grid.proofs.Fine.{LinesFit, lines_fine}
use Rattle.grid.proofs.Shapes.{Fit, fit_says}
use Rattle.tables.specs.Tables.{Tables, cells, list_in}
use Rattle.tables.specs.Fit.{TablesFit}
use Rattle.tables.proofs.Facts.{check_facts}
use Rattle.seek.specs.Bookmarks.{visit_check}

pub lists_below : (t : Tables) → TablesFit t → (c : ℕ) → c < cells t → Below t.lines (list_in t.offsets t.items c)
lists_below t f c h = (f.lists.lists c h).below

pub record Stands (ls : Lines) (g : Grid) (t : Tables) : Type 0 where
  pub lines_fine : lines_check ls ≡ Ok tt
  pub lines : LinesFit ls
  pub grid : Fit g
  pub tables : TablesFit t

pub stands : (ls : Lines) (g : Grid) (t : Tables) → visit_check ls g t ≡ (Ok tt) → Stands ls g t
unfolding visit_check grid_check
stands ls g t h =
    let a : lines_check ls ≡ (Ok tt) = and_then_left _ _ h in
    let b = and_then_right _ _ h in
    record {
      lines_fine = a;
      lines = lines_fine ls a;
      grid = fit_says g (unless_fine (fit g) 8 0 (and_then_left _ _ b));
      tables = check_facts t (and_then_right _ _ b);
    }

-- a grid that has cells has columns
pub has_columns : (rows cols : ℕ) → 0 < rows * cols → 0 < cols
has_columns rows zero h = absurd (omega (arith, mul-zero rows))
has_columns rows (suc cols) h = omega arith

-- the number of cells, as the code has it
pub cells_few : (ls : Lines) (g : Grid) (t : Tables) → Stands ls g t → g.rows * g.cols ≤ 1002001
cells_few ls g t s = s.grid.counts.cells
