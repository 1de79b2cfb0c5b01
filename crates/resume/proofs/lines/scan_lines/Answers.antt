-- `resume::lines::scan_lines` meets its contract. The invariant: the lines before the u-th are done. Assumes nothing.
use native.Mathlib.Omega.{arith}
use Prim.Native.Nat.{◌≤◌}
use Rattle.listed.proofs.ByteLaws.{byte_most}
use Rattle.resume.proofs.LineTurns.{lines_start, lines_asks, lines_more, lines_end, lines_in_first, lines_in_second}
use Rattle.resume.proofs.lines.scan_lines.Goals as goal

pub box_at-bounds-requires : goal.box_at-bounds-requires
box_at-bounds-requires c = record { alike = c.requires.alike; one = c.requires.one }

pub loop-u-init : goal.loop-u-init
loop-u-init c = lines_start _ _ _ _ _ _ _ _ c.requires c.box_at-bounds.ensures

pub overflow_add-from : goal.overflow_add-from
overflow_add-from c = omega (arith, c.loop-u.invariant.asks.below, c.loop-u.invariant.asks.few, c.loop-u-test.true)

pub box_at-other-requires : goal.box_at-other-requires
box_at-other-requires c = lines_asks _ _ _ _ _ _ _ _ _ _ _ _ c.loop-u.invariant c.loop-u-test.true

pub offset_bounds-first-hits : goal.offset_bounds-first-hits
offset_bounds-first-hits c = omega (arith, lines_in_first _ _ _ _ _ _ _ _ _ _ _ _ c.loop-u.invariant c.loop-u-test.true, lines_in_second _ _ _ _ _ _ _ _ _ _ _ _ c.loop-u.invariant c.loop-u-test.true, c)

pub bounds-first-hits : goal.bounds-first-hits
bounds-first-hits c = omega (arith, lines_in_first _ _ _ _ _ _ _ _ _ _ _ _ c.loop-u.invariant c.loop-u-test.true, lines_in_second _ _ _ _ _ _ _ _ _ _ _ _ c.loop-u.invariant c.loop-u-test.true, c)

pub overflow_add-second : goal.overflow_add-second
overflow_add-second c = omega (arith, c.loop-u.invariant.asks.below, c.loop-u.invariant.asks.few, c.loop-u-test.true)

pub offset_bounds-second-hits : goal.offset_bounds-second-hits
offset_bounds-second-hits c = omega (arith, lines_in_first _ _ _ _ _ _ _ _ _ _ _ _ c.loop-u.invariant c.loop-u-test.true, lines_in_second _ _ _ _ _ _ _ _ _ _ _ _ c.loop-u.invariant c.loop-u-test.true, c)

pub bounds-second-hits : goal.bounds-second-hits
bounds-second-hits c = omega (arith, lines_in_first _ _ _ _ _ _ _ _ _ _ _ _ c.loop-u.invariant c.loop-u-test.true, lines_in_second _ _ _ _ _ _ _ _ _ _ _ _ c.loop-u.invariant c.loop-u-test.true, c)

pub overflow_add-hits : goal.overflow_add-hits
overflow_add-hits c =
    let h = lines_in_first _ _ _ _ _ _ _ _ _ _ _ _ c.loop-u.invariant c.loop-u-test.true in
    let o = byte_most c.overlaps_with.result in
    let q : c.one_if-hit.result ≤ 1 = rw c.one_if-hit.ensures o in
    omega (arith, h, q, c)

pub loop-u-preserved : goal.loop-u-preserved
loop-u-preserved c = lines_more _ _ _ _ _ _ _ _ _ _ _ _ c.loop-u.invariant c.loop-u-test.true _ _ _ c.box_at-other.ensures c.overlaps_with.ensures c.one_if-hit.ensures

pub returns : goal.returns
returns c = lines_end _ _ _ _ _ _ _ _ _ _ _ _ c.loop-u.invariant c.loop-u-test.false
