-- `samples::checks::check_lengths` meets its contract. Assumes nothing.
use Rattle.samples.specs.Samples.{sample_lengths_check}
use Rattle.samples.proofs.checks.check_lengths.Goals as goal

pub returns : goal.returns
unfolding sample_lengths_check
returns c = c.refuse_unless.ensures
