-- `fill::offsets::running_sums` meets its contract. Assumes nothing.
use mathlib.Core.Path.{◌≡◌}
use mathlib.Core.Bool.{false}
use lib.ListN.{get_or}
use Rattle.fill.specs.Fill.{more_than}
use Rattle.fill.proofs.Sums.{Summing}
use Rattle.fill.proofs.offsets.running_sums.Given as goal

abbrev pub invariant-loop-c : goal.invariant-loop-c
invariant-loop-c l = Summing l.initial.offsets l.cells l.offsets l.total l.c × (more_than l.most (λ k. get_or l.initial.offsets k 0) l.c ≡ false)
