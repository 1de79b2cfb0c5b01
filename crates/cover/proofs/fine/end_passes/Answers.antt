-- `cover::fine::end_passes` meets its contract. Assumes nothing.
use Rattle.cover.specs.Covering.{end_passes}
use Rattle.cover.proofs.fine.end_passes.Goals as goal

pub returns-then-near : goal.returns-then-near
unfolding end_passes
returns-then-near c = rw (← c.x_axis.ensures, ← c.near.ensures, c.if-near.true, ← c.y_axis.ensures) c.near-then-near.ensures

pub returns : goal.returns
unfolding end_passes
returns c = rw (← c.x_axis.ensures, ← c.near.ensures, c.if-near.false)
