-- `numbers::order::magnitude` meets its contract. Assumes nothing.
use Rattle.std.proofs.Common.{T, sym, subst}
use lib.Ieee.{of_bits}
use Rattle.numbers.proofs.OrderCases.{magnitude_flips, magnitude_stays}
use Rattle.numbers.proofs.order.magnitude.Goals as goal

pub returns-then-v : goal.returns-then-v
unfolding of_bits
returns-then-v c = magnitude_flips _ (subst T (sym c.well_formed.0.1) tt) c.if-v.true

pub returns : goal.returns
unfolding of_bits
returns c = magnitude_stays _ c.if-v.false
