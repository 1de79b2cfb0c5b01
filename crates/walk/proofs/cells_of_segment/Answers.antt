-- `walk::cells_of_segment` meets its contract. Assumes nothing.
use Rattle.std.specs.Prelude.{Ok}
use Rattle.std.proofs.lemmas.Result.{err_from_is_err_and}
use mathlib.Core.Path.{◌≡◌, sym, ap, ◌∙◌}
use lib.ListN.{length}
use Rattle.walk.specs.Segment.{entry_check}
use Rattle.walk.proofs.Entry.{checked_entry, off_entry, found_entry, everywhere_entry, refused_entry}
use Rattle.walk.proofs.cells_of_segment.Goals as goal

pub returns-in_err-check_entry : goal.returns-in_err-check_entry
returns-in_err-check_entry c =
    let p = err_from_is_err_and c.from_residual.result c.from_residual.ensures.1 in
    rw (p.1, p.2) (checked_entry _ _ _ _ (sym c.in_err-check_entry.ensures))

pub returns-then-is_off : goal.returns-then-is_off
returns-then-is_off c =
    let checked : let a = c.args in entry_check (length a.scratch.now) a.grid a.line ≡ Ok tt = sym c.in_ok-check_entry.ensures in
    off_entry _ _ _ checked (sym c.is_off.ensures ∙ c.if-is_off.true)

pub returns-in-Found : goal.returns-in-Found
returns-in-Found c =
    let checked : let a = c.args in entry_check (length a.scratch.now) a.grid a.line ≡ Ok tt = sym c.in_ok-check_entry.ensures in
    found_entry _ _ _ checked (sym c.is_off.ensures ∙ c.if-is_off.false) c.cells_between.ensures _ _ (c.in_ok-reached.was ∙ ap Ok c.in-Found.is) c.clear_from.ensures

pub returns-in-Everywhere : goal.returns-in-Everywhere
returns-in-Everywhere c =
    let checked : let a = c.args in entry_check (length a.scratch.now) a.grid a.line ≡ Ok tt = sym c.in_ok-check_entry.ensures in
    everywhere_entry _ _ _ checked (sym c.is_off.ensures ∙ c.if-is_off.false) c.cells_between.ensures _ (c.in_ok-reached.was ∙ ap Ok c.in-Everywhere.is)

pub returns-in_err-reached : goal.returns-in_err-reached
returns-in_err-reached c =
    let checked : let a = c.args in entry_check (length a.scratch.now) a.grid a.line ≡ Ok tt = sym c.in_ok-check_entry.ensures in
    let p = err_from_is_err_and c.from_residual-in_err-reached.result c.from_residual-in_err-reached.ensures.1 in
    rw (p.1, p.2) (refused_entry _ _ _ checked (sym c.is_off.ensures ∙ c.if-is_off.false) c.cells_between.ensures _ c.in_err-reached.was)
