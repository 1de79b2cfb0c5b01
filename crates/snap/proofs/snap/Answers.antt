-- `snap::snap` meets its contract, by the test of the size. Assumes nothing.
use lib.Ieee.{of_bits, round}
use Rattle.snap.specs.Snap.{snap_of}
use Rattle.snap.proofs.snap.Goals as goal

pub returns-then-size : goal.returns-then-size
unfolding snap_of of_bits round
returns-then-size c = rw c.if-size.true

pub returns : goal.returns
unfolding snap_of of_bits round
returns c = rw c.if-size.false c.grid_snap.ensures
