-- `cost::cost_of` meets its contract. Assumes nothing.
use Rattle.refusals.proofs.Answers.{at_exit}
use mathlib.Core.Path.{sym}
use native.Mathlib.Omega.{arith}
use Rattle.tables.specs.Tables.{tables}
use Rattle.cost.proofs.Costs.{cost_refused, cells_ask, globals_ask, cost_fits, cost_is}
use Rattle.cost.proofs.cost_of.Goals as goal

pub returns-in_err-check_tables : goal.returns-in_err-check_tables
returns-in_err-check_tables c =
    let a = c.args in
    at_exit c.from_residual.ensures.1 (cost_refused a.grid (tables a.grid a.lines a.offsets.now a.items.now a.globals.now a.global_count) _ (sym c.in_err-check_tables.ensures))

pub overflow_mul-cells : goal.overflow_mul-cells
overflow_mul-cells c = let a = c.args in let h = cells_ask a.grid a.lines a.offsets.now a.items.now a.globals.now a.global_count (sym c.in_ok-check_tables.ensures) in record { fits = omega (arith, h.few) }

pub of_cells-listed-requires : goal.of_cells-listed-requires
of_cells-listed-requires c = let a = c.args in cells_ask a.grid a.lines a.offsets.now a.items.now a.globals.now a.global_count (sym c.in_ok-check_tables.ensures)

pub overflow_cast-lines : goal.overflow_cast-lines
overflow_cast-lines c = let a = c.args in let h = globals_ask a.grid a.lines a.offsets.now a.items.now a.globals.now a.global_count (sym c.in_ok-check_tables.ensures) in record { fits = omega (arith, h.few) }

pub overflow_cast-global_count : goal.overflow_cast-global_count
overflow_cast-global_count c = let a = c.args in let h = globals_ask a.grid a.lines a.offsets.now a.items.now a.globals.now a.global_count (sym c.in_ok-check_tables.ensures) in record { fits = omega (arith, h.few, h.within) }

pub of_globals-global-requires : goal.of_globals-global-requires
of_globals-global-requires c = let a = c.args in globals_ask a.grid a.lines a.offsets.now a.items.now a.globals.now a.global_count (sym c.in_ok-check_tables.ensures)

pub overflow_add-result : goal.overflow_add-result
overflow_add-result c = let a = c.args in record { fits = cost_fits a.grid a.lines a.offsets.now a.items.now a.globals.now a.global_count (sym c.in_ok-check_tables.ensures) c.of_cells-listed.ensures c.of_globals-global.ensures }

pub returns : goal.returns
returns c =
    let a = c.args in
    cost_is a.grid a.lines a.offsets.now a.items.now a.globals.now a.global_count (sym c.in_ok-check_tables.ensures) c.of_cells-listed.ensures c.of_globals-global.ensures
