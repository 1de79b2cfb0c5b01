-- `crossings::run` meets its contract: the cells, and then the globals. Assumes nothing.
use native.Mathlib.Omega.{arith}
use Rattle.first_tests.proofs.Whole.{run_cells, run_globals, run_done}
use Rattle.crossings.proofs.run.Goals as goal

pub overflow_mul-cells : goal.overflow_mul-cells
overflow_mul-cells c = let h = run_cells c.requires in omega (arith, h.few_cells)

pub scan_cells-hits-requires : goal.scan_cells-hits-requires
scan_cells-hits-requires c = let h = c.requires in run_cells (h)

pub overflow_cast-start_x : goal.overflow_cast-start_x
overflow_cast-start_x c = let h = run_cells c.requires in omega (arith, h.few_lines)

pub scan_globals-requires : goal.scan_globals-requires
scan_globals-requires c = let h = c.requires in run_globals (h) c.scan_cells-hits.ensures

pub returns : goal.returns
returns c = run_done c.requires c.scan_cells-hits.ensures c.scan_globals.ensures
