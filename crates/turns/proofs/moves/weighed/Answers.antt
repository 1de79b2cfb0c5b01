-- `turns::moves::weighed` meets its contract. Assumes nothing.
use lib.Ieee.{of_bits}
use Rattle.turns.specs.Turns.{further_of}
use Rattle.turns.proofs.moves.weighed.Goals as goal

pub returns-then-tol-least : goal.returns-then-tol-least
unfolding further_of of_bits
returns-then-tol-least c = rw (← c.tolerance-tol.ensures, ← c.least.ensures, c.if-tol-least.true)

pub returns-then-near : goal.returns-then-near
unfolding further_of of_bits
returns-then-near c = rw (← c.tolerance-tol.ensures, ← c.least.ensures, c.if-tol-least.false, ← c.near.ensures, c.if-near.true)

pub returns : goal.returns
unfolding further_of of_bits
returns c = rw (← c.tolerance-tol.ensures, ← c.least.ensures, c.if-tol-least.false, ← c.near.ensures, c.if-near.false)
