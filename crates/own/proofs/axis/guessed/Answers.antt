-- `own::axis::guessed` meets its contract: what is cut is a number of 64 bits, and what is below the count one of 32. Assumes nothing.
use lib.Ieee.{of_bits}
use Rattle.numbers.proofs.Tests.{holds, past_minus_one}
use Rattle.own.proofs.axis.guessed.Goals as goal

pub truncating_f64_to_u64-cut-requires : goal.truncating_f64_to_u64-cut-requires
unfolding of_bits
truncating_f64_to_u64-cut-requires c = record { lower_bound = past_minus_one _ c.if-cells.true; upper_bound = holds _ c.if-cells-2.true }
