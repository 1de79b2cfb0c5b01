-- `fill::offsets::shift_back` meets its contract. Assumes nothing.
use Rattle.fill.proofs.Sums.{Shifting}
use Rattle.fill.proofs.offsets.shift_back.Given as goal

abbrev pub invariant-loop-c : goal.invariant-loop-c
invariant-loop-c l = Shifting l.initial.offsets l.cells l.offsets l.c
