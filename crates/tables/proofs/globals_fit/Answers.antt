-- `tables::globals_fit` meets its contract. Assumes nothing.
use mathlib.Core.Path.{sym, ◌∙◌}
use lib.Seq.{length-take-le}
use Rattle.tables.proofs.Turns.{globals_short, globals_in}
use Rattle.tables.proofs.globals_fit.Goals as goal

pub returns-then-globals-global_count : goal.returns-then-globals-global_count
returns-then-globals-global_count c =
    let a = c.args in
    globals_short a.lines a.globals.now a.global_count c.if-globals-global_count.true

pub slice_bounds-is_increasing-end : goal.slice_bounds-is_increasing-end
slice_bounds-is_increasing-end c = sym (length-take-le _ _ c.if-globals-global_count.false)

pub returns : goal.returns
returns c =
    let a = c.args in
    c.is_increasing.ensures ∙ globals_in a.lines a.globals.now a.global_count c.if-globals-global_count.false
