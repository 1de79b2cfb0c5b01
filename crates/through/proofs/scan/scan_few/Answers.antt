-- `through::scan::scan_few` meets its contract. The invariant: the entries before u are done. Assumes nothing.
use native.Mathlib.Omega.{arith}
use mathlib.Core.Path.{ap, ◌∙◌}
use Prim.Native.Nat.{◌≤◌}
use borrow.Author.Rules.{rules}
use Rattle.listed.specs.Bytes.{byte_of}
use Rattle.grid.specs.Boxes.{overlaps}
use Rattle.listed.proofs.ByteLaws.{byte_most}
use Rattle.through.proofs.BriefTurns.{few_start, few_first_long, few_second_long, few_end, few_box, few_in_first, few_in_second, few_more}
use Rattle.through.proofs.scan.scan_few.Goals as goal

pub loop-u-init : goal.loop-u-init
loop-u-init c = few_start _ _ _ _ _ _ _ _ (search rules)

pub overflow_add-at : goal.overflow_add-at
overflow_add-at c = omega (arith, few_box _ _ _ _ _ _ _ _ _ _ _ _ c.loop-u.invariant c.loop-u-test.true)

pub flat_at-other-requires : goal.flat_at-other-requires
flat_at-other-requires c = few_box _ _ _ _ _ _ _ _ _ _ _ _ c.loop-u.invariant c.loop-u-test.true

pub overflow_cast-hit : goal.overflow_cast-hit
overflow_cast-hit c = omega (arith, c.byte_of-hit.ensures, byte_most c.meets.result)

pub offset_bounds-first-hits : goal.offset_bounds-first-hits
offset_bounds-first-hits c = omega (arith, few_in_first _ _ _ _ _ _ _ _ _ _ _ _ c.loop-u.invariant c.loop-u-test.true, few_in_second _ _ _ _ _ _ _ _ _ _ _ _ c.loop-u.invariant c.loop-u-test.true, c, c, c, c, c, c, c, c, c)

pub bounds-first-hits : goal.bounds-first-hits
bounds-first-hits c = omega (arith, few_in_first _ _ _ _ _ _ _ _ _ _ _ _ c.loop-u.invariant c.loop-u-test.true, few_in_second _ _ _ _ _ _ _ _ _ _ _ _ c.loop-u.invariant c.loop-u-test.true, c, c, c, c, c)

pub offset_bounds-second-hits : goal.offset_bounds-second-hits
offset_bounds-second-hits c = omega (arith, few_in_first _ _ _ _ _ _ _ _ _ _ _ _ c.loop-u.invariant c.loop-u-test.true, few_in_second _ _ _ _ _ _ _ _ _ _ _ _ c.loop-u.invariant c.loop-u-test.true, c, c, c, c, c)

pub bounds-second-hits : goal.bounds-second-hits
bounds-second-hits c = omega (arith, few_in_first _ _ _ _ _ _ _ _ _ _ _ _ c.loop-u.invariant c.loop-u-test.true, few_in_second _ _ _ _ _ _ _ _ _ _ _ _ c.loop-u.invariant c.loop-u-test.true, c, c, c, c, c)

pub overflow_add-hits : goal.overflow_add-hits
overflow_add-hits c =
    let h = few_in_first _ _ _ _ _ _ _ _ _ _ _ _ c.loop-u.invariant c.loop-u-test.true in
    let o = byte_most c.meets.result in
    let q : c.byte_of-hit.result ≤ 1 = rw c.byte_of-hit.ensures o in
    omega (arith, h, q, c, c, c, c, c)

pub loop-u-preserved : goal.loop-u-preserved
loop-u-preserved c =
    few_more _ _ _ _ _ _ _ _ _ _ _ _ c.loop-u.invariant c.loop-u-test.true _
    (c.byte_of-hit.ensures ∙ ap byte_of (c.meets.ensures ∙ ap (overlaps _) c.flat_at-other.ensures))

pub shape_of-first : goal.shape_of-first
shape_of-first c = few_first_long _ _ _ _ _ _ _ _ _ _ _ _ c.loop-u.invariant

pub shape_of-second : goal.shape_of-second
shape_of-second c = few_second_long _ _ _ _ _ _ _ _ _ _ _ _ c.loop-u.invariant

pub returns : goal.returns
returns c = few_end _ _ _ _ _ _ _ _ _ _ _ _ c.loop-u.invariant c.loop-u-test.false
