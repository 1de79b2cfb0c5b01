-- `added::placing::list_global` meets its contract. Assumes nothing.
use mathlib.Core.Path.{◌∙◌}
use lib.ListN.{length-set}
use Rattle.added.proofs.Going.{global_none, global_one}
use Rattle.added.proofs.placing.list_global.Goals as goal

pub returns-then-more-eq0 : goal.returns-then-more-eq0
returns-then-more-eq0 c = global_none _ _ _ _ c.if-more-eq0.true c.requires.1 c.clear_from.ensures

pub shape_of-globals : goal.shape_of-globals
shape_of-globals c = c.clear_from-2.auto.s ∙ simp length-set

pub returns : goal.returns
returns c = global_one _ _ _ _ c.if-more-eq0.false c.requires.0 c.requires.1 c.clear_from-2.ensures
