-- `agreed::agree_to` meets its contract. The invariant: the records so far agree, and what follows goes on from there. Assumes nothing.
use mathlib.Core.Path.{refl, sym, ◌∙◌}
use Prim.Native.Nat.{ℕ, ◌+◌}
use native.Mathlib.Omega.{arith}
use lib.ListN.{get_or, length-replicate}
use borrow.Author.Tests.{not-false, not-true}
use Rattle.agreed.proofs.Tallying.{going_none, going_end, going_past, going_apart, of_parts, ended}
use Rattle.agreed.proofs.agree_to.Goals as goal

pub loop-at-init : goal.loop-at-init
loop-at-init c = (going_none _, length-replicate {A = ℕ} 32768 0)

pub returns-then-size-eq0 : goal.returns-then-size-eq0
returns-then-size-eq0 c = going_end c.loop-at.invariant.0 (sym c.size_at-size.ensures.0 ∙ c.if-size-eq0.true)

pub bounds-w-at : goal.bounds-w-at
bounds-w-at c = let z = of_parts c.args.w.now c.loop-at.at c.size_at-size.ensures.0 c.if-size-eq0.false in omega (arith, z, c.size_at-size.ensures.1)

pub overflow_add-mid-in-loop-at : goal.overflow_add-mid-in-loop-at
overflow_add-mid-in-loop-at c = let z = of_parts c.args.w.now c.loop-at.at c.size_at-size.ensures.0 c.if-size-eq0.false in omega (arith, z, c.size_at-size.ensures.1)

pub overflow_add-to : goal.overflow_add-to
overflow_add-to c = let z = of_parts c.args.w.now c.loop-at.at c.size_at-size.ensures.0 c.if-size-eq0.false in omega (arith, z, c.size_at-size.ensures.1)

pub offset_bounds-w-from : goal.offset_bounds-w-from
offset_bounds-w-from c = let z = of_parts c.args.w.now c.loop-at.at c.size_at-size.ensures.0 c.if-size-eq0.false in omega (arith, z, c.size_at-size.ensures.1)

pub slice_bounds-counts-count : goal.slice_bounds-counts-count
slice_bounds-counts-count c = let z = of_parts c.args.w.now c.loop-at.at c.size_at-size.ensures.0 c.if-size-eq0.false in omega (arith, z, c.size_at-size.ensures.1)

pub slice_bounds-counts-start : goal.slice_bounds-counts-start
slice_bounds-counts-start c = let z = of_parts c.args.w.now c.loop-at.at c.size_at-size.ensures.0 c.if-size-eq0.false in omega (arith, z, c.size_at-size.ensures.1)

pub slice_bounds-counts-end : goal.slice_bounds-counts-end
slice_bounds-counts-end c = let z = of_parts c.args.w.now c.loop-at.at c.size_at-size.ensures.0 c.if-size-eq0.false in omega (arith, z, c.size_at-size.ensures.1)

pub offset_bounds-w-mid : goal.offset_bounds-w-mid
offset_bounds-w-mid c = let z = of_parts c.args.w.now c.loop-at.at c.size_at-size.ensures.0 c.if-size-eq0.false in omega (arith, z, c.size_at-size.ensures.1)

pub slice_bounds-counts-count-in-loop-at : goal.slice_bounds-counts-count-in-loop-at
slice_bounds-counts-count-in-loop-at c = let z = of_parts c.args.w.now c.loop-at.at c.size_at-size.ensures.0 c.if-size-eq0.false in omega (arith, z, c.size_at-size.ensures.1)

pub slice_bounds-counts-start-in-loop-at : goal.slice_bounds-counts-start-in-loop-at
slice_bounds-counts-start-in-loop-at c = let z = of_parts c.args.w.now c.loop-at.at c.size_at-size.ensures.0 c.if-size-eq0.false in omega (arith, z, c.size_at-size.ensures.1)

pub slice_bounds-counts-end-in-loop-at : goal.slice_bounds-counts-end-in-loop-at
slice_bounds-counts-end-in-loop-at c = let z = of_parts c.args.w.now c.loop-at.at c.size_at-size.ensures.0 c.if-size-eq0.false in omega (arith, z, c.size_at-size.ensures.1)

pub slice_bounds-counts-end-in-loop-at-2 : goal.slice_bounds-counts-end-in-loop-at-2
slice_bounds-counts-end-in-loop-at-2 c = sym c.loop-at.invariant.1

pub counts-requires : goal.counts-requires
counts-requires c = c.loop-at.invariant.1

pub returns-then-not-counts : goal.returns-then-not-counts
returns-then-not-counts c =
    let w = c.args.w.now in
    let at = c.loop-at.at in
    let s = c.size_at-size.result in
    let n = c.counts.ensures in
    let z = of_parts w at c.size_at-size.ensures.0 c.if-size-eq0.false in
    going_apart w at (at + 3) (at + 3 + get_or w (at + 1) 0) (at + s) s c.size_at-size.ensures.0 c.if-size-eq0.false refl refl refl (omega (arith, z, c.size_at-size.ensures.1)) c.loop-at.invariant.0 (λ a. n.0.no (not-true c.counts.result c.if-not-counts.true-raw) (refl, a))

pub loop-at-smaller : goal.loop-at-smaller
loop-at-smaller c = let z = of_parts c.args.w.now c.loop-at.at c.size_at-size.ensures.0 c.if-size-eq0.false in omega (arith, z, c.size_at-size.ensures.1)

pub loop-at-preserved : goal.loop-at-preserved
loop-at-preserved c =
    let w = c.args.w.now in
    let at = c.loop-at.at in
    let s = c.size_at-size.result in
    let n = c.counts.ensures in
    let z = of_parts w at c.size_at-size.ensures.0 c.if-size-eq0.false in
    (going_past w at (at + 3) (at + 3 + get_or w (at + 1) 0) (at + s) s c.size_at-size.ensures.0 c.if-size-eq0.false refl refl refl (omega (arith, z, c.size_at-size.ensures.1)) c.loop-at.invariant.0 (n.0.yes (not-false c.counts.result c.if-not-counts.false-raw)).1, n.1)

pub returns : goal.returns
returns c = going_end c.loop-at.invariant.0 (ended c.args.w.now c.loop-at.at (omega arith))
