-- `listed::lists::next_cell` meets its contract. The invariant: the cells before this one are passed over. Assumes nothing.
use native.Mathlib.Omega.{arith}
use mathlib.Core.Path.{◌≡◌, ap, ◌∙◌}
use Prim.Native.Nat.{min}
use Rattle.listed.proofs.CellLaws.{look_start, look_more, look_here, look_end}
use Rattle.listed.proofs.lists.next_cell.Goals as goal

pub loop-i-init : goal.loop-i-init
loop-i-init c = look_start _ _ _ _ (c.least-last.ensures ∙ ap (min _) c.less_one.ensures)

pub overflow_add-wide : goal.overflow_add-wide
overflow_add-wide c = omega (arith, c.wide.ensures, c.shared_slice_known-in-loop-i-1.given c.loop-i.i)

pub returns-then-wide : goal.returns-then-wide
returns-then-wide c = look_here _ _ _ _ _ c.loop-i.invariant _ _ c.wide.ensures c.wide-in-loop-i.ensures c.if-wide.true

pub loop-i-preserved : goal.loop-i-preserved
loop-i-preserved c =
    let l = c.loop-i in
    look_more _ _ _ _ _ l.invariant _ _ c.wide.ensures c.wide-in-loop-i.ensures (omega arith) c.if-wide.false

pub returns : goal.returns
returns c =
    let l = c.loop-i in
    let e : l.i ≡ c.max.result = grind (arith, l.auto.i, l.auto.i-end, l.invariant.ends, c.loop-i-test.false, c.max.ensures) in
    rw e at (look_end _ _ _ _ _ l.invariant c.loop-i-test.false)
