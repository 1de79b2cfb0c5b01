-- `resume::lists::reach` meets its contract. Assumes nothing.
use Rattle.resume.proofs.AsIs.{reach_is}
use Rattle.resume.proofs.lists.reach.Goals as goal

pub returns : goal.returns
returns c = reach_is _ _ _ _ _ c.less_one.ensures c.least.ensures c.least-2.ensures
