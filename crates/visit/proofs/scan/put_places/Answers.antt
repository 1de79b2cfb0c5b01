-- `visit::scan::put_places` meets its contract. The invariant: what is put so far. Assumes nothing.
use native.Mathlib.Omega.{arith}
use Rattle.visit.proofs.Placing.{putting_none, put_short, putting_more, putting_done}
use Rattle.visit.proofs.scan.put_places.Goals as goal

pub returns-then-places-to : goal.returns-then-places-to
returns-then-places-to c = put_short c.args.places.now c.args.from c.args.to c.args.number c.if-places-to.true

pub loop-i-init : goal.loop-i-init
loop-i-init c = putting_none c.args.places.now c.args.from c.args.to c.args.number

pub offset_bounds-places-i : goal.offset_bounds-places-i
offset_bounds-places-i c = omega (arith, c.loop-i.invariant.long, c.if-places-to.false)

pub bounds-places-i : goal.bounds-places-i
bounds-places-i c = omega (arith, c.loop-i.invariant.long, c.if-places-to.false)

pub loop-i-preserved : goal.loop-i-preserved
loop-i-preserved c = putting_more c.args.places.now c.args.from c.args.to c.args.number c.loop-i.places c.loop-i.i c.loop-i.invariant c.loop-i-test.true (omega (arith, c.loop-i.invariant.long, c.if-places-to.false))

pub shape_of-places : goal.shape_of-places
shape_of-places c = c.loop-i.invariant.long

pub returns : goal.returns
returns c = putting_done c.args.places.now c.args.from c.args.to c.args.number c.loop-i.places c.loop-i.i c.loop-i.invariant (omega arith)
