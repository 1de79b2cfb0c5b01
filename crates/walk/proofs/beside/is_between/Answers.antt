-- `walk::beside::is_between` meets its contract. Assumes nothing.
use mathlib.Core.Bool.{true, false, true≢false}
use mathlib.Core.Path.{◌≡◌, sym, subst}
use native.Mathlib.Omega.{arith}
use lib.Ieee.{Float, of_bits, round, lt, binary64}
use Rattle.walk.proofs.Off.{off_side}
use Rattle.walk.proofs.beside.is_between.Goals as goal

pub returns-then-magnitude : goal.returns-then-magnitude
unfolding of_bits round
returns-then-magnitude c =
    λ h.
    off_side _ _ _ _ (omega arith) c.scaled-at.ensures c.if-low-at.true c.if-at-high.true
    (subst (λ (z : Float). lt (round binary64 false 1 1000000000000) z ≡ true) c.magnitude.ensures c.if-magnitude.true)
    (subst (λ (z : Float). lt (round binary64 false 1 1000000000000) z ≡ true) c.magnitude-then-magnitude.ensures h)

pub returns-then-at-high : goal.returns-then-at-high
returns-then-at-high c = λ h. absurd (true≢false (sym h))

pub returns-then-low-at : goal.returns-then-low-at
returns-then-low-at c = λ h. absurd (true≢false (sym h))

pub returns : goal.returns
returns c = λ h. absurd (true≢false (sym h))
