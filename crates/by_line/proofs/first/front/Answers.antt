-- `by_line::first::front` meets its contract. Assumes nothing.
use mathlib.Core.Path.{refl}
use native.Mathlib.Omega.{arith}
use Rattle.by_line.proofs.Fronts.{front_starts, front_counts, front_beyond, front_is}
use Rattle.by_line.proofs.first.front.Goals as goal

pub returns-then-starts-i : goal.returns-then-starts-i
returns-then-starts-i c = let a = c.args in front_starts a.line a.starts.now a.listing.now a.counts.now c.if-starts-i.true

pub returns-then-counts-i : goal.returns-then-counts-i
returns-then-counts-i c = let a = c.args in front_counts a.line a.starts.now a.listing.now a.counts.now c.if-starts-i.false c.if-counts-i.true

pub overflow_cast-from : goal.overflow_cast-from
overflow_cast-from c = let g = c.shared_slice_known-1.given c.args.line in omega arith

pub overflow_cast-to : goal.overflow_cast-to
overflow_cast-to c = let g = c.shared_slice_known-2-1.given c.args.line in omega arith

pub overflow_add-to : goal.overflow_add-to
overflow_add-to c =
    let g = c.shared_slice_known-1.given c.args.line in
    let h = c.shared_slice_known-2-1.given c.args.line in
    omega arith

pub returns-then-listing-to : goal.returns-then-listing-to
returns-then-listing-to c = let a = c.args in front_beyond a.line a.starts.now a.listing.now a.counts.now c.if-starts-i.false c.if-counts-i.false c.if-listing-to.true

pub returns : goal.returns
returns c = let a = c.args in front_is a.line a.starts.now a.listing.now a.counts.now c.if-starts-i.false c.if-counts-i.false _ _ refl refl c.if-listing-to.false
