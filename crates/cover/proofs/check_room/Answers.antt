-- `cover::check_room` meets its contract: the first check that refuses, or the last. Assumes nothing.
use Rattle.refusals.proofs.Answers.{at_exit}
use mathlib.Core.Path.{sym, ◌∙◌}
use Rattle.refusals.proofs.Checks.{and_then_refused, and_then_fine}
use Rattle.cover.specs.Covering.{scratch_shape_check}
use Rattle.cover.proofs.check_room.Goals as goal

pub returns-in_err-check_scratch : goal.returns-in_err-check_scratch
unfolding scratch_shape_check
returns-in_err-check_scratch c = at_exit c.from_residual.ensures.1 (sym (and_then_refused _ _ _ (sym c.in_err-check_scratch.ensures)))

pub returns : goal.returns
unfolding scratch_shape_check
returns c =
    let p = sym c.in_ok-check_scratch.ensures in
    c.refuse_unless.ensures ∙ rw c.is_shape.ensures (sym (and_then_fine _ _ p))
