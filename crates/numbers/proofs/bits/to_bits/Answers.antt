-- `numbers::bits::to_bits` meets its contract: a NaN differs from itself, and anything else has a pattern of its own. Assumes nothing.
use Rattle.numbers.proofs.Patterns.{nan_pattern, not_nan}
use Rattle.numbers.proofs.bits.to_bits.Goals as goal

pub returns-then-v : goal.returns-then-v
returns-then-v c = nan_pattern c.args.v c.if-v.true

pub float_to_bits-result : goal.float_to_bits-result
float_to_bits-result c = not_nan c.args.v c.if-v.false
