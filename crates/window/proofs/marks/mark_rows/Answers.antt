-- `window::marks::mark_rows` meets its contract: the rows from `row` on are still to be marked. Assumes nothing.
use mathlib.Core.Path.{ap, ◌∙◌}
use mathlib.Core.List.{List}
use Prim.Native.Nat.{ℕ}
use native.Mathlib.Omega.{arith}
use Rattle.window.specs.Inside.{marked_with}
use Rattle.window.proofs.Marking.{rows_none, rows_more, rows_over}
use Rattle.window.proofs.Corners.{row_in, row_below, part_is}
use Rattle.window.proofs.marks.mark_rows.Goals as goal

pub loop-row-init : goal.loop-row-init
loop-row-init c = rows_none _ _ _ _ _ _ _ _

pub overflow_mul-at : goal.overflow_mul-at
overflow_mul-at c = let r = row_in _ _ _ _ _ _ _ c.requires c.loop-row.row (omega arith) in omega (arith, r.end, r.small, r.order)

pub overflow_add-at : goal.overflow_add-at
overflow_add-at c = let r = row_in _ _ _ _ _ _ _ c.requires c.loop-row.row (omega arith) in omega (arith, r.end, r.small, r.order)

pub offset_bounds-offsets-at : goal.offset_bounds-offsets-at
offset_bounds-offsets-at c = let r = row_in _ _ _ _ _ _ _ c.requires c.loop-row.row (omega arith) in omega (arith, r.end, r.small, r.order)

pub bounds-offsets-at : goal.bounds-offsets-at
bounds-offsets-at c = let r = row_in _ _ _ _ _ _ _ c.requires c.loop-row.row (omega arith) in omega (arith, r.end, r.small, r.order)

pub overflow_add-at-in-loop-row : goal.overflow_add-at-in-loop-row
overflow_add-at-in-loop-row c = let r = row_in _ _ _ _ _ _ _ c.requires c.loop-row.row (omega arith) in omega (arith, r.end, r.small, r.order)

pub overflow_add-at-in-loop-row-2 : goal.overflow_add-at-in-loop-row-2
overflow_add-at-in-loop-row-2 c = let r = row_in _ _ _ _ _ _ _ c.requires c.loop-row.row (omega arith) in omega (arith, r.end, r.small, r.order)

pub offset_bounds-offsets-at-in-loop-row : goal.offset_bounds-offsets-at-in-loop-row
offset_bounds-offsets-at-in-loop-row c = let r = row_in _ _ _ _ _ _ _ c.requires c.loop-row.row (omega arith) in omega (arith, r.end, r.small, r.order)

pub bounds-offsets-at-in-loop-row : goal.bounds-offsets-at-in-loop-row
bounds-offsets-at-in-loop-row c = let r = row_in _ _ _ _ _ _ _ c.requires c.loop-row.row (omega arith) in omega (arith, r.end, r.small, r.order)

pub offset_bounds-items-low : goal.offset_bounds-items-low
offset_bounds-items-low c = let r = row_in _ _ _ _ _ _ _ c.requires c.loop-row.row (omega arith) in omega (arith, r.rise, r.within, c.wide-low.ensures, c.wide-high.ensures)

pub slice_bounds-mark_list-count : goal.slice_bounds-mark_list-count
slice_bounds-mark_list-count c = let r = row_in _ _ _ _ _ _ _ c.requires c.loop-row.row (omega arith) in omega (arith, r.rise, r.within, c.wide-low.ensures, c.wide-high.ensures)

pub slice_bounds-mark_list-start : goal.slice_bounds-mark_list-start
slice_bounds-mark_list-start c = let r = row_in _ _ _ _ _ _ _ c.requires c.loop-row.row (omega arith) in omega (arith, r.rise, r.within, c.wide-low.ensures, c.wide-high.ensures)

pub slice_bounds-mark_list-end : goal.slice_bounds-mark_list-end
slice_bounds-mark_list-end c = let r = row_in _ _ _ _ _ _ _ c.requires c.loop-row.row (omega arith) in omega (arith, r.rise, r.within, c.wide-low.ensures, c.wide-high.ensures)

pub mark_list-requires : goal.mark_list-requires
mark_list-requires c = let r = row_in _ _ _ _ _ _ _ c.requires c.loop-row.row (omega arith) in row_below r _ _ c.loop-row.marks c.wide-low.ensures c.wide-high.ensures c.loop-row.invariant.long

pub loop-row-preserved : goal.loop-row-preserved
loop-row-preserved c = rows_more _ _ _ _ _ _ _ _ _ _ _ c.loop-row.invariant (omega arith) (c.mark_list.ensures ∙ ap (λ (xs : List ℕ). marked_with xs c.loop-row.marks) (part_is _ _ _ _ _ _ _ _ c.wide-low.ensures c.wide-high.ensures))

pub shape_of-marks : goal.shape_of-marks
shape_of-marks c = c.loop-row.invariant.long

pub returns : goal.returns
returns c = rows_over _ _ _ _ _ _ _ _ _ _ c.loop-row.invariant (omega arith)
