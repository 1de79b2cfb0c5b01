-- `numbers::whole::whole_index` meets its contract. Assumes nothing.
use Rattle.std.proofs.Common.{◌≡◌, ℕ, ◌+◌, ◌-◌, ◌≤◌, refl, arith}
use lib.Ieee.{of_bits}
use Rattle.numbers.proofs.WholeLaws.{small}
use Rattle.numbers.proofs.PartCases.{moved_number, index_of}
use Rattle.numbers.proofs.whole.whole_index.Goals as goal

some : (a q : ℕ) → a ≡ q + 1 → 1 ≤ a
some a q e = omega arith

less_one : (a q : ℕ) → a ≡ q + 1 → a - 1 ≡ q
less_one a q e = omega arith

pub float_to_bits-index : goal.float_to_bits-index
unfolding of_bits
float_to_bits-index c = moved_number _ (small _ c.requires.above_zero c.requires.below_limit)

pub overflow_sub-result : goal.overflow_sub-result
unfolding of_bits
overflow_sub-result c = let p = c.requires in some _ _ ((index_of _ _ (small _ p.above_zero p.below_limit) refl p.fits_index).0 c.if-v-near.true)

pub returns-then-v-near : goal.returns-then-v-near
unfolding of_bits
returns-then-v-near c = let p = c.requires in less_one _ _ ((index_of _ _ (small _ p.above_zero p.below_limit) refl p.fits_index).0 c.if-v-near.true)

pub returns : goal.returns
unfolding of_bits
returns c = let p = c.requires in (index_of _ _ (small _ p.above_zero p.below_limit) refl p.fits_index).1 c.if-v-near.false
