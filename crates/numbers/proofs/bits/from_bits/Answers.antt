-- `numbers::bits::from_bits` meets its contract: what lies above infinity's pattern is the NaN, and anything else is no NaN's. Assumes nothing.
use Rattle.std.proofs.Common.{sym, arith}
use lib.Ieee.{div, of_bits}
use Rattle.numbers.proofs.Patterns.{nan_above, number_within}
use Rattle.numbers.proofs.bits.from_bits.Goals as goal

pub returns-then-pattern-gt9218868437227405312 : goal.returns-then-pattern-gt9218868437227405312
unfolding div of_bits
returns-then-pattern-gt9218868437227405312 c = sym (nan_above c.args.pattern (omega arith))

pub float_from_bits-result : goal.float_from_bits-result
float_from_bits-result c = number_within c.args.pattern (omega arith)
