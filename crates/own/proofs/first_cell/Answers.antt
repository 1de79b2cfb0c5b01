-- `own::first_cell` meets its contract: the owner is the cell of the first column and the first row. Assumes nothing.
use Rattle.std.proofs.Common.{◌∙◌}
use Rattle.own.proofs.Owners.{asked, answered, no_column_owns, no_row_owns, both_own}
use Rattle.own.proofs.first_cell.Goals as goal

pub first-across-requires : goal.first-across-requires
first-across-requires c = asked _ _ _ c.x_axis.ensures c.requires.x_searchable

pub returns-in_default : goal.returns-in_default
returns-in_default c = c.seam_or_outside.ensures ∙ no_column_owns _ _ _ (answered _ _ _ _ _ c.first-across.ensures c.x_axis.ensures c.in_default.is)

pub first-along-requires : goal.first-along-requires
first-along-requires c = asked _ _ _ c.y_axis.ensures c.requires.y_searchable

pub returns-in_default-along : goal.returns-in_default-along
returns-in_default-along c = c.seam_or_outside-in_default-along.ensures ∙ no_row_owns _ _ _ (answered _ _ _ _ _ c.first-along.ensures c.y_axis.ensures c.in_default-along.is)

pub returns : goal.returns
returns c = both_own _ _ _ _ _ (answered _ _ _ _ _ c.first-across.ensures c.x_axis.ensures c.in-Some.is) (answered _ _ _ _ _ c.first-along.ensures c.y_axis.ensures c.in-Some-along.is)
