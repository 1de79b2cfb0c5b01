-- `snap::checks::is_snap` meets its contract. Assumes nothing.
use Rattle.snap.proofs.checks.is_snap.Goals as goal

pub returns-then-is_snap_size : goal.returns-then-is_snap_size
returns-then-is_snap_size c = rw (← c.is_snap_size.ensures, c.if-is_snap_size.true)

pub returns : goal.returns
returns c = rw (← c.is_snap_size.ensures, c.if-is_snap_size.false)
