-- Tables that a visit takes can be shown. Assumes nothing.
use Rattle.std.specs.Prelude.{Ok}
use mathlib.Core.Path.{◌≡◌}
use Prim.Native.Nat.{◌≤◌}
use native.Mathlib.Omega.{arith}
use Rattle.grid.specs.declared.Grid.{Grid}
use Rattle.grid.specs.Domain.{Lines}
use Rattle.tables.specs.Tables.{Tables, cells}
use Rattle.tables.proofs.Parts.{fit_cells, fit_globals}
use Rattle.seek.specs.Bookmarks.{visit_check}
use Rattle.seek.proofs.Standing.{stands, cells_few}
use Rattle.chain.specs.Inside.{ShowAsks}

module _ (ls : Lines) (g : Grid) (t : Tables) (fine : visit_check ls g t ≡ Ok tt) where
  pub shown : t.cols ≡ g.cols → t.rows ≡ g.rows → ShowAsks t
  shown ec er =
      let s = stands ls g t fine in
      let few : cells t ≤ 1002001 = rw (ec, er) (cells_few ls g t s) in
      record { few = omega arith; lists = fit_cells t s.tables; globals = fit_globals t s.tables }
