-- `own::many::number_at` meets its contract: a guess that is settled on both axes is the owner's cell, and the search gives the owner. Assumes
-- nothing.
use Rattle.std.proofs.Common.{ap, ◌∙◌, arith}
use Rattle.own.specs.Many.{owner_number}
use Rattle.own.proofs.Owners.{asked, cell_of}
use Rattle.own.proofs.ManyLaws.{cell_below, number_fits}
use Rattle.own.proofs.many.number_at.Goals as goal

pub settled-requires : goal.settled-requires
settled-requires c = asked _ _ _ c.x_axis.ensures c.requires.across

pub settled-requires-then-settled : goal.settled-requires-then-settled
settled-requires-then-settled c = asked _ _ _ c.y_axis.ensures c.requires.up

pub overflow_mul-result : goal.overflow_mul-result
overflow_mul-result c = let l = cell_below _ _ _ _ _ (cell_of _ _ _ _ _ _ _ c.x_axis.ensures c.y_axis.ensures (c.settled.ensures c.if-settled.true) (c.settled-then-settled.ensures c.if-settled-2.true)) in omega (arith, c.requires.few)

pub overflow_add-result : goal.overflow_add-result
overflow_add-result c = let l = cell_below _ _ _ _ _ (cell_of _ _ _ _ _ _ _ c.x_axis.ensures c.y_axis.ensures (c.settled.ensures c.if-settled.true) (c.settled-then-settled.ensures c.if-settled-2.true)) in omega (arith, c.requires.few)

pub returns-then-settled-2 : goal.returns-then-settled-2
unfolding owner_number
returns-then-settled-2 c = ap (owner_number _) (cell_of _ _ _ _ _ _ _ c.x_axis.ensures c.y_axis.ensures (c.settled.ensures c.if-settled.true) (c.settled-then-settled.ensures c.if-settled-2.true))

pub numbered-requires : goal.numbered-requires
numbered-requires c = number_fits _ _ _ _ c.requires.few c.first_cell.ensures

pub returns : goal.returns
returns c = c.numbered.ensures ∙ ap (owner_number _) c.first_cell.ensures
