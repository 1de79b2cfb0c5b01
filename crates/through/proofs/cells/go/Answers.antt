-- `through::cells::go` meets its contract. Assumes nothing.
use native.Mathlib.Omega.{arith}
use mathlib.Core.Path.{refl}
use Rattle.through.proofs.RunLaws.{go_cells, go_is}
use Rattle.through.proofs.cells.go.Goals as goal

pub run_cells-ran-requires : goal.run_cells-ran-requires
run_cells-ran-requires c = go_cells _ _ _ _ _ _ _ _ _ _ c.requires _ _ (omega arith) (omega arith)

pub returns : goal.returns
returns c = go_is _ _ _ _ _ _ _ _ _ _ c.requires _ _ _ c.run_cells-ran.ensures _ _ _ _ c.clear_from.ensures c.clear_from-2.ensures refl c.cell_at-at.ensures
