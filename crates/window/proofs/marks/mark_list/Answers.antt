-- `window::marks::mark_list` meets its contract: what is left of the list is still to be marked. Assumes nothing.
use native.Mathlib.Omega.{arith}
use Rattle.slices.proofs.Members.{below_at}
use Rattle.window.proofs.Marking.{marking_none, marking_more, marking_over}
use Rattle.window.proofs.marks.mark_list.Goals as goal

pub loop-line-init : goal.loop-line-init
loop-line-init c = marking_none _ _

pub bounds-marks-wide : goal.bounds-marks-wide
bounds-marks-wide c = let l = below_at _ c.args.list.now c.loop-line.line-index c.requires (omega arith) in omega (arith, l, c.loop-line.invariant.long, c.wide.ensures)

pub loop-line-preserved : goal.loop-line-preserved
loop-line-preserved c = marking_more _ _ _ c.loop-line.line-index _ c.loop-line.invariant (omega arith) c.wide.ensures

pub shape_of-marks : goal.shape_of-marks
shape_of-marks c = c.loop-line.invariant.long

pub returns : goal.returns
returns c = marking_over _ _ _ _ c.loop-line.invariant (omega arith)
