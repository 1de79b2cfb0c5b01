-- `resume::nexts::finish` meets its contract. Assumes nothing.
use Rattle.resume.proofs.Zeros.{finished_one, finished_none}
use Rattle.resume.proofs.nexts.finish.Goals as goal

pub returns-then-hits-out : goal.returns-then-hits-out
returns-then-hits-out c = finished_one _ _ (c.requires c.if-clean.true) c.if-hits-out.true

pub returns-then-clean : goal.returns-then-clean
returns-then-clean c = finished_none _ _ c.if-hits-out.false
