-- `snap::grid_snap` meets its contract: code and definition take the same steps. Assumes nothing.
use Rattle.snap.specs.Snap.{grid_snap}
use Rattle.snap.proofs.grid_snap.Goals as goal

pub returns : goal.returns
unfolding grid_snap
returns c = cc
