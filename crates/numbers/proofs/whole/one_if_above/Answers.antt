-- `numbers::whole::one_if_above` meets its contract. Assumes nothing.
use lib.Ieee.{of_bits}
use Rattle.numbers.proofs.whole.one_if_above.Goals as goal

pub returns-then-a-b : goal.returns-then-a-b
unfolding of_bits
returns-then-a-b c = rw c.if-a-b.true

pub returns : goal.returns
unfolding of_bits
returns c = rw c.if-a-b.false
