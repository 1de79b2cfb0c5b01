-- `cover::fine::ends_of` meets its contract. Assumes nothing.
use native.Mathlib.Omega.{arith}
use Rattle.cover.proofs.Entry.{passes_says, near_by, ends_up, ends_down}
use Rattle.cover.proofs.fine.ends_of.Goals as goal

pub fine-start_x-requires : goal.fine-start_x-requires
fine-start_x-requires c = near_by _ c.x_axis.ensures (passes_says _ _ c.requires).start_x

pub fine-start_y-requires : goal.fine-start_y-requires
fine-start_y-requires c = near_by _ c.y_axis.ensures (passes_says _ _ c.requires).start_y

pub fine-end_x-requires : goal.fine-end_x-requires
fine-end_x-requires c = near_by _ c.x_axis-2.ensures (passes_says _ _ c.requires).end_x

pub fine-end_y-requires : goal.fine-end_y-requires
fine-end_y-requires c = near_by _ c.y_axis-2.ensures (passes_says _ _ c.requires).end_y

pub returns-then-end_y-start_y : goal.returns-then-end_y-start_y
returns-then-end_y-start_y c =
    ends_down _ _ c.x_axis.ensures c.fine-start_x.ensures c.y_axis.ensures c.fine-start_y.ensures
    c.x_axis-2.ensures c.fine-end_x.ensures c.y_axis-2.ensures c.fine-end_y.ensures (omega arith)

pub returns : goal.returns
returns c =
    ends_up _ _ c.x_axis.ensures c.fine-start_x.ensures c.y_axis.ensures c.fine-start_y.ensures
    c.x_axis-2.ensures c.fine-end_x.ensures c.y_axis-2.ensures c.fine-end_y.ensures (omega arith)
