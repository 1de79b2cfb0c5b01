-- `samples::checks::check_samples` meets its contract. Assumes nothing.
use Rattle.samples.specs.Samples.{samples}
use Rattle.samples.proofs.Checking.{Searched}
use Rattle.samples.proofs.checks.check_samples.Given as goal

abbrev pub invariant-loop-i : goal.invariant-loop-i
invariant-loop-i l = Searched (samples l.start_x l.start_y l.end_x l.end_y) l.i
