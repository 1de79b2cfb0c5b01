-- `snap::checks::is_snap_size` meets its contract. Assumes nothing.
use lib.Ieee.{of_bits, round}
use Rattle.snap.specs.Snap.{snap_size}
use Rattle.snap.proofs.checks.is_snap_size.Goals as goal

pub returns-then-size : goal.returns-then-size
unfolding snap_size of_bits round
returns-then-size c = rw c.if-size.true

pub returns-then-size-2 : goal.returns-then-size-2
unfolding snap_size of_bits round
returns-then-size-2 c = rw (c.if-size.false, c.if-size-2.true)

pub returns : goal.returns
unfolding snap_size of_bits round
returns c = rw (c.if-size.false, c.if-size-2.false)
