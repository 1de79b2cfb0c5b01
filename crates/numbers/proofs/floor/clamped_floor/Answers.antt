-- `numbers::floor::clamped_floor` meets its contract. Assumes nothing.
use Rattle.std.proofs.Common.{◌≡◌, ℕ, sym, ◌∙◌, subst, arith}
use lib.Ieee.{of_bits}
use Rattle.numbers.specs.Floor.{clamped_floor}
use Rattle.numbers.proofs.Tests.{holds}
use Rattle.numbers.proofs.WholeLaws.{whole_value}
use Rattle.numbers.proofs.FloorCases.{Within, within, clamped_none, clamped_low, clamped_high, clamped_within}
use Rattle.numbers.proofs.floor.clamped_floor.Goals as goal

pub returns-then-count-eq0 : goal.returns-then-count-eq0
returns-then-count-eq0 c = subst (λ (n : ℕ). 0 ≡ clamped_floor c.args.v n) (sym c.if-count-eq0.true) (clamped_none _)

pub whole_index-requires : goal.whole_index-requires
unfolding of_bits
whole_index-requires c = let w : Within c.args.v c.args.count = within _ _ (omega arith) c.if-v.true c.if-v-last.true in record { above_zero = holds _ c.if-v.true; below_limit = w.small; fits_index = omega arith }

pub returns-then-v-last : goal.returns-then-v-last
unfolding of_bits
returns-then-v-last c = let w : Within c.args.v c.args.count = within _ _ (omega arith) c.if-v.true c.if-v-last.true in c.whole_index.ensures ∙ clamped_within _ _ w.above_zero (omega arith)

pub returns-then-v : goal.returns-then-v
unfolding of_bits
returns-then-v c = clamped_high _ _ _ c.if-v.true (whole_value _ (omega arith)) c.if-v-last.false

pub returns : goal.returns
unfolding of_bits
returns c = clamped_low _ _ c.if-v.false
