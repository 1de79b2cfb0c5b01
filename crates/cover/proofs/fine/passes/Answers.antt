-- `cover::fine::passes` meets its contract. Assumes nothing.
use Rattle.cover.specs.Covering.{passes}
use Rattle.cover.proofs.fine.passes.Goals as goal

pub returns-then-end_passes : goal.returns-then-end_passes
unfolding passes
returns-then-end_passes c = rw (← c.end_passes.ensures, c.if-end_passes.true) c.end_passes-then-end_passes.ensures

pub returns : goal.returns
unfolding passes
returns c = rw (← c.end_passes.ensures, c.if-end_passes.false)
