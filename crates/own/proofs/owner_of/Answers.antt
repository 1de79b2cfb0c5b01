-- `own::owner_of` meets its contract: the check that refuses gives the answer, else the search does. Assumes nothing.
use Rattle.std.specs.Prelude.{Ok}
use Rattle.std.proofs.Common.{sym, ap, ◌∙◌}
use Rattle.refusals.specs.Refusals.{answer_by}
use Rattle.refusals.proofs.Answers.{at_exit, refused_by, past}
use Rattle.own.specs.Owner.{owner_answer}
use Rattle.own.proofs.Owners.{searchable}
use Rattle.own.proofs.owner_of.Goals as goal

pub returns-in_err-check_place : goal.returns-in_err-check_place
unfolding owner_answer
returns-in_err-check_place c = at_exit c.from_residual.ensures.1 (refused_by _ _ _ _ _ (sym c.in_err-check_place.ensures))

pub first_cell-requires : goal.first_cell-requires
first_cell-requires c =
    let s = searchable _ _ _ (sym c.in_ok-check_place.ensures) in record { x_searchable = s.0; y_searchable = s.1 }

pub returns : goal.returns
unfolding owner_answer answer_by
returns c = ap Ok c.first_cell.ensures ∙ past _ _ _ _ (sym c.in_ok-check_place.ensures)
