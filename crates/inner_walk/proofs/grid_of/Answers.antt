-- `inner_walk::grid_of` meets its contract: the sizes are there, or not. Assumes nothing.
use borrow.Author.Tests.{lt-ltb, le-ltb}
use lib.Ieee.{of_bits}
use Rattle.inner_walk.specs.Replies.{grid_by_sizes}
use Rattle.inner_walk.proofs.grid_of.Goals as goal

pub returns-then-sizes-lt4 : goal.returns-then-sizes-lt4
unfolding grid_by_sizes of_bits
returns-then-sizes-lt4 c = rw (lt-ltb _ 4 c.if-sizes-lt4.true)

pub returns : goal.returns
unfolding grid_by_sizes
returns c = rw (le-ltb _ 4 c.if-sizes-lt4.false)
