-- `agreed::agreeing` meets its contract. The invariant: the records that agree so far, and those that follow, make up the whole. Assumes nothing.
use mathlib.Core.Path.{refl, sym, ◌∙◌}
use Prim.Native.Nat.{ℕ, ◌+◌}
use native.Mathlib.Omega.{arith}
use lib.ListN.{get_or, length-replicate}
use Rattle.agreed.proofs.Tallying.{tally_none, tally_more, tally_all, of_parts, ended, at_most}
use Rattle.agreed.proofs.agreeing.Goals as goal

pub loop-at-init : goal.loop-at-init
loop-at-init c = (tally_none _ _, length-replicate {A = ℕ} 32768 0)

pub returns-then-size-eq0 : goal.returns-then-size-eq0
returns-then-size-eq0 c = tally_all c.loop-at.invariant.0 (sym c.size_at-size.ensures.0 ∙ c.if-size-eq0.true)

pub bounds-w-at : goal.bounds-w-at
bounds-w-at c = let z = of_parts c.args.w.now c.loop-at.at c.size_at-size.ensures.0 c.if-size-eq0.false in omega (arith, z, c.size_at-size.ensures.1)

pub overflow_add-mid-in-loop-at : goal.overflow_add-mid-in-loop-at
overflow_add-mid-in-loop-at c = let z = of_parts c.args.w.now c.loop-at.at c.size_at-size.ensures.0 c.if-size-eq0.false in omega (arith, z, c.size_at-size.ensures.1)

pub overflow_add-to : goal.overflow_add-to
overflow_add-to c = let z = of_parts c.args.w.now c.loop-at.at c.size_at-size.ensures.0 c.if-size-eq0.false in omega (arith, z, c.size_at-size.ensures.1)

pub offset_bounds-w-from : goal.offset_bounds-w-from
offset_bounds-w-from c = let z = of_parts c.args.w.now c.loop-at.at c.size_at-size.ensures.0 c.if-size-eq0.false in omega (arith, z, c.size_at-size.ensures.1)

pub slice_bounds-counts-count : goal.slice_bounds-counts-count
slice_bounds-counts-count c = let z = of_parts c.args.w.now c.loop-at.at c.size_at-size.ensures.0 c.if-size-eq0.false in omega (arith, z, c.size_at-size.ensures.1)

pub slice_bounds-counts-start : goal.slice_bounds-counts-start
slice_bounds-counts-start c = let z = of_parts c.args.w.now c.loop-at.at c.size_at-size.ensures.0 c.if-size-eq0.false in omega (arith, z, c.size_at-size.ensures.1)

pub slice_bounds-counts-end : goal.slice_bounds-counts-end
slice_bounds-counts-end c = let z = of_parts c.args.w.now c.loop-at.at c.size_at-size.ensures.0 c.if-size-eq0.false in omega (arith, z, c.size_at-size.ensures.1)

pub offset_bounds-w-mid : goal.offset_bounds-w-mid
offset_bounds-w-mid c = let z = of_parts c.args.w.now c.loop-at.at c.size_at-size.ensures.0 c.if-size-eq0.false in omega (arith, z, c.size_at-size.ensures.1)

pub slice_bounds-counts-count-in-loop-at : goal.slice_bounds-counts-count-in-loop-at
slice_bounds-counts-count-in-loop-at c = let z = of_parts c.args.w.now c.loop-at.at c.size_at-size.ensures.0 c.if-size-eq0.false in omega (arith, z, c.size_at-size.ensures.1)

pub slice_bounds-counts-start-in-loop-at : goal.slice_bounds-counts-start-in-loop-at
slice_bounds-counts-start-in-loop-at c = let z = of_parts c.args.w.now c.loop-at.at c.size_at-size.ensures.0 c.if-size-eq0.false in omega (arith, z, c.size_at-size.ensures.1)

pub slice_bounds-counts-end-in-loop-at : goal.slice_bounds-counts-end-in-loop-at
slice_bounds-counts-end-in-loop-at c = let z = of_parts c.args.w.now c.loop-at.at c.size_at-size.ensures.0 c.if-size-eq0.false in omega (arith, z, c.size_at-size.ensures.1)

pub slice_bounds-counts-end-in-loop-at-2 : goal.slice_bounds-counts-end-in-loop-at-2
slice_bounds-counts-end-in-loop-at-2 c = sym c.loop-at.invariant.1

pub counts-counted-requires : goal.counts-counted-requires
counts-counted-requires c = c.loop-at.invariant.1

pub overflow_add-records : goal.overflow_add-records
overflow_add-records c = let z = of_parts c.args.w.now c.loop-at.at c.size_at-size.ensures.0 c.if-size-eq0.false in omega (arith, z, c.size_at-size.ensures.1, c.loop-at.invariant.0.few, at_most c.counts-counted.result 1 c.if_so-records.ensures)

pub overflow_add-words : goal.overflow_add-words
overflow_add-words c = let z = of_parts c.args.w.now c.loop-at.at c.size_at-size.ensures.0 c.if-size-eq0.false in omega (arith, z, c.size_at-size.ensures.1, c.loop-at.invariant.0.narrow, at_most c.counts-counted.result c.size_at-size.result c.if_so-words.ensures)

pub loop-at-smaller : goal.loop-at-smaller
loop-at-smaller c = let z = of_parts c.args.w.now c.loop-at.at c.size_at-size.ensures.0 c.if-size-eq0.false in omega (arith, z, c.size_at-size.ensures.1)

pub loop-at-preserved : goal.loop-at-preserved
loop-at-preserved c =
    let w = c.args.w.now in
    let at = c.loop-at.at in
    let s = c.size_at-size.result in
    let n = c.counts-counted.ensures in
    let z = of_parts w at c.size_at-size.ensures.0 c.if-size-eq0.false in
    (tally_more w at (at + 3) (at + 3 + get_or w (at + 1) 0) (at + s) s c.size_at-size.ensures.0 c.if-size-eq0.false refl refl refl (omega (arith, z, c.size_at-size.ensures.1)) c.loop-at.invariant.0 _ n.0 c.if_so-records.ensures c.if_so-words.ensures, n.1)

pub returns : goal.returns
returns c = tally_all c.loop-at.invariant.0 (ended c.args.w.now c.loop-at.at (omega arith))
