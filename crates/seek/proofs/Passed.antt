-- What lines, a grid and tables say that pass the checks of a visit, as the code counts their cells. Assumes nothing.
use Rattle.std.specs.Prelude.{Ok}
use mathlib.Core.Path.{◌≡◌}
use mathlib.Core.List.{List}
use Prim.Native.Nat.{ℕ, ◌+◌, ◌*◌, ◌≤◌, ◌<◌, ◌^◌}
use native.Mathlib.Omega.{arith}
use lib.ListN.{length, take}
use lib.Seq.{length-take-le}
use Rattle.slices.specs.Lists.{Below}
use Rattle.grid.specs.declared.Grid.{Grid}
use Rattle.grid.specs.Domain.{Lines, count}
use Rattle.tables.specs.Tables.{list_in, beside}
use Rattle.seek.specs.Bookmarks.{visit_check}
use Rattle.tables.specs.InsideFit.{CellsFit}
use Rattle.tables.proofs.Parts.{fit_cells}
use Rattle.seek.proofs.Standing.{Stands, stands, lists_below, has_columns}
use Rattle.seek.proofs.Lengths.{length_increasing}

-- what stands, for m cells as the code counts them
module _ (ls : Lines) (g : Grid) (offsets items globals : List ℕ) (count_of : ℕ) (h : visit_check ls g (beside ls g offsets items globals count_of) ≡ (Ok tt)) where
  pub here : Stands ls g (beside ls g offsets items globals count_of)
  here = stands ls g (beside ls g offsets items globals count_of) h

  pub lines_few : count ls ≤ 65536
  lines_few = here.lines.few

  pub rows_cols : (a b : ℕ) → a ≡ g.rows → b ≡ g.cols → a * b < 2 ^ 64
  rows_cols a b p q = rw (p, q) (omega (arith, here.grid.counts.cells))

  module _ (m : ℕ) (e : m ≡ g.rows * g.cols) where
    pub m_fits : CellsFit m offsets items
    m_fits = rw e (fit_cells (beside ls g offsets items globals count_of) here.tables)

    pub m_below : (c : ℕ) → c < m → Below (count ls) (list_in offsets items c)
    m_below c l = lists_below (beside ls g offsets items globals count_of) here.tables c (rw e at l)

    pub m_wide : 0 < m → 0 < g.cols
    m_wide l = has_columns g.rows g.cols (rw e at l)

    pub m_few : m < 2 ^ 32
    m_few = omega (arith, here.grid.counts.cells)

    pub m_few_both : m + count_of < 2 ^ 32
    m_few_both =
        let k : length (take count_of globals) ≤ count ls = length_increasing (count ls) (take count_of globals) here.tables.globals in
        omega (arith, here.grid.counts.cells, lines_few, length-take-le count_of globals here.tables.counted)
