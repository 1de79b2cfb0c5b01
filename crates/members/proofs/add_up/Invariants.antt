-- `members::add_up` meets its contract. The invariant: the first k lengths were added up, and are right. Assumes nothing.
use Prim.Native.Nat.{◌<◌}
use lib.ListN.{length}
use Rattle.members.proofs.Along.{Summed}
use Rattle.members.proofs.add_up.Given as goal

abbrev pub invariant-loop-n : goal.invariant-loop-n
invariant-loop-n l = (length l.lengths < 4294967296) × Summed l.lengths l.n-index l.sum
