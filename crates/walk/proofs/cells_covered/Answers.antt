-- `walk::cells_covered` meets its contract. Assumes nothing.
use Rattle.std.specs.Prelude.{Ok}
use Rattle.std.proofs.lemmas.Result.{err_from_is_err_and}
use mathlib.Core.Path.{ap, ◌∙◌}
use Rattle.walk.proofs.Reaching.{found_covered, everywhere_covered, refused_covered}
use Rattle.walk.proofs.cells_covered.Goals as goal

pub returns-in-Found : goal.returns-in-Found
returns-in-Found c = found_covered c.cover_segment.ensures _ (c.in_ok-cells.was ∙ ap Ok c.in-Found.is)

pub returns-in-Everywhere : goal.returns-in-Everywhere
returns-in-Everywhere c = everywhere_covered c.cover_segment.ensures (c.in_ok-cells.was ∙ ap Ok c.in-Everywhere.is)

pub returns-in_err-cells : goal.returns-in_err-cells
returns-in_err-cells c =
    let p = err_from_is_err_and c.from_residual.result c.from_residual.ensures.1 in
    rw (p.1, p.2) (refused_covered c.cover_segment.ensures _ c.in_err-cells.was)
