-- `by_line::marks::mark` meets its contract. Assumes nothing.
use Rattle.by_line.proofs.Shared.{mark_is, marking_begin, marking_over, marking_stop, marking_more}
use Rattle.by_line.proofs.marks.mark.Goals as goal

pub loop-i-init : goal.loop-i-init
loop-i-init c = marking_begin _ _ _

pub returns-then-cell-low : goal.returns-then-cell-low
returns-then-cell-low c =
    let a = c.args in
    mark_is a.line a.before a.low a.starts.now a.listing.now a.counts.now c.front-cells.ensures
    (marking_stop c.loop-i.invariant c.loop-i-test.true c.bit_of-m.ensures c.if-cell-low.true)

pub loop-i-preserved : goal.loop-i-preserved
loop-i-preserved c = marking_more c.loop-i.invariant c.loop-i-test.true c.if-cell-low.false c.bit_of-m.ensures

pub returns : goal.returns
returns c =
    let a = c.args in
    mark_is a.line a.before a.low a.starts.now a.listing.now a.counts.now c.front-cells.ensures
    (marking_over c.loop-i.invariant c.loop-i-test.false)
