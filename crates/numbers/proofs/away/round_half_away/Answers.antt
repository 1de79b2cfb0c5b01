-- `numbers::away::round_half_away` meets its contract. Assumes nothing.
use Rattle.std.proofs.Common.{◌≡◌, false, true, T, pos, sym, ap, ◌∙◌, subst}
use lib.Ieee.{Float, fin, binary64, fits, of_bits, lt, mul}
use Rattle.numbers.specs.Order.{magnitude_of}
use Rattle.numbers.proofs.Tests.{holds}
use Rattle.numbers.specs.Away.{round_away}
use Rattle.numbers.proofs.WholeLaws.{Small, small, stays_large, stays_small}
use Rattle.numbers.proofs.AwayCases.{away_stays, away_of}
use Rattle.numbers.proofs.away.round_half_away.Goals as goal

held : (v : Float) → fits binary64 v ≡ true → T (fits binary64 v)
held v e = subst T (sym e) tt

-- the size lies above zero and below 2 ^ 52
fine : (v size : Float) → size ≡ magnitude_of v → lt (fin false 0 (pos 0)) size ≡ true → lt size (fin false 1 (pos 52)) ≡ true → Small (magnitude_of v)
fine v size e above below = small _ (subst (λ (x : Float). T (lt (fin false 0 (pos 0)) x)) e (holds _ above)) (subst (λ (x : Float). T (lt x (fin false 1 (pos 52)))) e (holds _ below))

pub round_positive-requires : goal.round_positive-requires
unfolding of_bits
round_positive-requires c = record { above_zero = holds _ c.if-size.true; below_limit = holds _ c.if-size-2.true }

pub returns-then-size-2 : goal.returns-then-size-2
unfolding of_bits
returns-then-size-2 c =
    ap (λ (x : Float). mul binary64 x c.round_positive.result) c.unit.ensures
    ∙ away_of _ _ (fine _ _ c.magnitude-size.ensures c.if-size.true c.if-size-2.true) (c.round_positive.ensures ∙ ap round_away c.magnitude-size.ensures)

pub returns-else-size-2 : goal.returns-else-size-2
unfolding of_bits
returns-else-size-2 c = away_stays (stays_large _ (held _ c.well_formed.0.1) (subst (λ (x : Float). lt x (fin false 1 (pos 52)) ≡ false) c.magnitude-size.ensures c.if-size-2.false))

pub returns-else-size : goal.returns-else-size
unfolding of_bits
returns-else-size c = away_stays (stays_small _ (held _ c.well_formed.0.1) (subst (λ (x : Float). lt (fin false 0 (pos 0)) x ≡ false) c.magnitude-size.ensures c.if-size.false))
