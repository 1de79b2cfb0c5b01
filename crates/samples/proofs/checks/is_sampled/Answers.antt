-- `samples::checks::is_sampled` meets its contract. Assumes nothing.
use mathlib.Core.Path.{refl}
use Rattle.samples.specs.Samples.{sampled}
use Rattle.samples.proofs.checks.is_sampled.Goals as goal

pub returns : goal.returns
unfolding sampled
returns c = refl
