-- `crossing_chain::whole::wholes_of` meets its contract. The invariant: the first i entries are the whole numbers, and the others as they were. Assumes nothing.
use Rattle.std.proofs.Common.{◌≡◌, ◌-◌, ◌≤◌, ◌++◌, map, length, take, drop}
use Rattle.crossing_chain.specs.Whole.{whole_of}
use Rattle.crossing_chain.proofs.whole.wholes_of.Given as goal

abbrev pub invariant-loop-i : goal.invariant-loop-i
invariant-loop-i l = (l.to ≡ map whole_of (take l.i l.from) ++ drop l.i l.initial.to) × (l.i ≤ length l.from) × (length l.to ≡ length l.initial.to)
