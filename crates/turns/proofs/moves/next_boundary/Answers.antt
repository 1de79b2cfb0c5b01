-- `turns::moves::next_boundary` meets its contract. Assumes nothing.
use Rattle.std.proofs.Common.{arith}
use lib.Ieee.{of_bits}
use Rattle.turns.specs.Turns.{next_on}
use Rattle.turns.proofs.Floats.{index_le}
use Rattle.turns.proofs.moves.next_boundary.Goals as goal

pub overflow_add-i : goal.overflow_add-i
overflow_add-i c = let a = c.args in omega (arith, c.index-i.ensures, index_le a.axis a.start)

pub returns-then-d : goal.returns-then-d
unfolding next_on of_bits
returns-then-d c = rw (c.if-d.true, c.low_edge.ensures, c.index-i.ensures)

pub returns : goal.returns
unfolding next_on of_bits
returns c = rw (c.if-d.false, c.low_edge-2.ensures, c.index-i.ensures)
