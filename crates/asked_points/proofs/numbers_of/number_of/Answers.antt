-- `asked_points::numbers_of::number_of` meets its contract. Assumes nothing.
use mathlib.Core.Path.{◌∙◌, ap}
use lib.Ieee.{binary64, to_bits}
use borrow.Author.Rules.{rules}
use Rattle.records.specs.Questions.{short_by, float_by}
use Rattle.asked_points.specs.Asked.{number_by}
use Rattle.asked_points.proofs.ByKind.{number_last}
use Rattle.asked_points.proofs.numbers_of.number_of.Goals as goal

pub returns-then-function-eq1 : goal.returns-then-function-eq1
unfolding number_by float_by short_by
returns-then-function-eq1 c = rw (c.if-function-eq1.true, ← c.from_bits.ensures, ← c.mt_least.ensures) c.to_bits.ensures

pub returns-then-function-eq2 : goal.returns-then-function-eq2
unfolding number_by float_by short_by
returns-then-function-eq2 c = rw (c.if-function-eq2.true, ← c.from_bits-then-function-eq2.ensures, ← c.mt_greatest.ensures) c.to_bits-then-function-eq2.ensures

pub returns-then-function-eq3 : goal.returns-then-function-eq3
unfolding number_by float_by short_by
returns-then-function-eq3 c = rw (c.if-function-eq3.true, ← c.mt_magnitude.ensures) c.to_bits-then-function-eq3.ensures

pub returns-then-function-eq4 : goal.returns-then-function-eq4
unfolding number_by float_by short_by
returns-then-function-eq4 c = rw (c.if-function-eq4.true, ← c.mt_floor.ensures) c.to_bits-then-function-eq4.ensures

pub overflow_cast-other : goal.overflow_cast-other
unfolding number_by float_by short_by
overflow_cast-other c = search rules

pub overflow_cast-result : goal.overflow_cast-result
unfolding number_by float_by short_by
overflow_cast-result c = search rules

pub returns-then-function-eq5 : goal.returns-then-function-eq5
unfolding number_by float_by short_by
returns-then-function-eq5 c = rw c.if-function-eq5.true c.mt_clamped_floor.ensures

pub returns-then-function-eq6 : goal.returns-then-function-eq6
unfolding number_by float_by short_by
returns-then-function-eq6 c = rw c.if-function-eq6.true c.mt_ceiling.ensures

pub returns-then-function-eq7 : goal.returns-then-function-eq7
unfolding number_by float_by short_by
returns-then-function-eq7 c = rw (c.if-function-eq7.true, ← c.mt_round_half_away.ensures) c.to_bits-then-function-eq7.ensures

pub returns : goal.returns
unfolding number_by float_by short_by
returns c =
    c.to_bits-2.ensures
    ∙ ap (to_bits binary64) c.mt_square_root.ensures
    ∙ number_last _ _ _ c.if-function-eq1.false c.if-function-eq2.false c.if-function-eq3.false c.if-function-eq4.false c.if-function-eq5.false c.if-function-eq6.false c.if-function-eq7.false
