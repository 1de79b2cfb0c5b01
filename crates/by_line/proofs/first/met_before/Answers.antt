-- `by_line::first::met_before` meets its contract. Assumes nothing.
use Rattle.by_line.specs.First.{meet_before}
use Rattle.by_line.proofs.first.met_before.Goals as goal

pub returns : goal.returns
unfolding meet_before
returns c = cc
