-- `numbers::whole::unit` meets its contract. Assumes nothing.
use lib.Ieee.{of_bits, neg}
use Rattle.numbers.proofs.whole.unit.Goals as goal

pub returns-then-v : goal.returns-then-v
unfolding of_bits neg
returns-then-v c = rw c.if-v.true

pub returns : goal.returns
unfolding of_bits
returns c = rw c.if-v.false
