-- `turns::moves::is_plain` meets its contract. Assumes nothing.
use lib.Ieee.{of_bits}
use Rattle.turns.specs.Inside.{plainly}
use Rattle.turns.proofs.moves.is_plain.Goals as goal

pub returns-then-tol-gap : goal.returns-then-tol-gap
unfolding plainly of_bits
returns-then-tol-gap c = rw (← c.greatest-tol.ensures, c.if-near.true, c.if-tol-gap.true)

pub returns-then-near : goal.returns-then-near
unfolding plainly of_bits
returns-then-near c = rw (← c.greatest-tol.ensures, c.if-near.true, c.if-tol-gap.false, c.infinity.ensures)

pub returns : goal.returns
unfolding plainly of_bits
returns c = rw c.if-near.false
