-- `build::choose::build_none` meets its contract. Assumes nothing.
use Rattle.build.proofs.Choices.{none_ends, none_halves}
use Rattle.build.proofs.choose.build_none.Goals as goal

pub returns-in-Some : goal.returns-in-Some
returns-in-Some c = none_ends _ c.requires c.empty_grid-grid.ensures c.fill_on-filled.ensures c.lead-tried.ensures _ c.in-Some.is

pub returns-in-None : goal.returns-in-None
returns-in-None c = absurd (none_halves c.args.plan c.requires c.empty_grid-grid.ensures c.fill_on-filled.ensures c.lead-tried.ensures c.in-None.is)
