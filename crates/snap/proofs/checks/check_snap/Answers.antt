-- `snap::checks::check_snap` meets its contract. Assumes nothing.
use Rattle.snap.specs.Snap.{snap_check}
use Rattle.snap.proofs.checks.check_snap.Goals as goal

pub returns : goal.returns
unfolding snap_check
returns c = rw (← c.is_snap.ensures) c.refuse_unless.ensures
