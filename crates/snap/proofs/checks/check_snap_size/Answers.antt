-- `snap::checks::check_snap_size` meets its contract. Assumes nothing.
use Rattle.snap.specs.Snap.{snap_size_check}
use Rattle.snap.proofs.checks.check_snap_size.Goals as goal

pub returns : goal.returns
unfolding snap_size_check
returns c = rw (← c.is_snap_size.ensures) c.refuse_unless.ensures
