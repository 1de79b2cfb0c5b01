-- `build::choose::attempt_size` meets its contract. Assumes nothing.
use Rattle.build.proofs.Choices.{attempt_is}
use Rattle.build.proofs.choose.attempt_size.Goals as goal

pub returns : goal.returns
returns c = attempt_is _ _ _ _ c.requires c.grid_of-grid.ensures c.most_on-most.ensures c.fill_on-filled.ensures c.lead.ensures
