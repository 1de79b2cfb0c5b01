-- `records::questions::float` meets its contract. Assumes nothing.
use Rattle.records.specs.Questions.{float_at, float_by}
use Rattle.records.proofs.questions.float.Goals as goal

pub returns : goal.returns
unfolding float_at float_by
returns c = cc
