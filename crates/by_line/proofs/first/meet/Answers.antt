-- `by_line::first::meet` meets its contract. Assumes nothing.
use mathlib.Core.Path.{refl}
use native.Mathlib.Omega.{arith}
use Rattle.by_line.proofs.Fronts.{none_left, none_right, comparing_found, comparing_left_over, comparing_left, comparing_right_over, comparing_right}
use Rattle.by_line.proofs.first.meet.Goals as goal

pub returns-then-i-eq0 : goal.returns-then-i-eq0
returns-then-i-eq0 c = none_left _ _ c.if-i-eq0.true

pub returns-then-j-eq0 : goal.returns-then-j-eq0
returns-then-j-eq0 c = none_right _ _ c.if-j-eq0.true

pub loop-x-init : goal.loop-x-init
loop-x-init c = record { in_xs = omega arith; in_ys = omega arith; some_x = omega arith; some_y = omega arith; x_is = refl; y_is = refl; same = refl }

pub returns-then-j-eq0-2 : goal.returns-then-j-eq0-2
returns-then-j-eq0-2 c = comparing_left_over c.loop-x.invariant c.loop-x-test.true c.if-x-y.true c.if-j-eq0-2.true

pub loop-x-preserved-then-x-y : goal.loop-x-preserved-then-x-y
loop-x-preserved-then-x-y c = comparing_left c.loop-x.invariant c.loop-x-test.true c.if-x-y.true c.if-j-eq0-2.false

pub returns-then-i-eq0-2 : goal.returns-then-i-eq0-2
returns-then-i-eq0-2 c = comparing_right_over c.loop-x.invariant c.loop-x-test.true c.if-x-y.false c.if-i-eq0-2.true

pub loop-x-preserved : goal.loop-x-preserved
loop-x-preserved c = comparing_right c.loop-x.invariant c.loop-x-test.true c.if-x-y.false c.if-i-eq0-2.false

pub returns : goal.returns
returns c = comparing_found c.loop-x.invariant c.loop-x-test.false
