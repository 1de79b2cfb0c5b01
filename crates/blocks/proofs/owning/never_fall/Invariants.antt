-- `blocks::owning::never_fall` meets its contract: no offset before c falls. Assumes nothing.
use Prim.Native.Nat.{suc}
use lib.Dec.{leb}
use lib.ListN.{get_or}
use Rattle.blocks.proofs.Owns.{Testing}
use Rattle.blocks.proofs.owning.never_fall.Given as goal

abbrev pub invariant-loop-c : goal.invariant-loop-c
invariant-loop-c l = Testing (λ k. leb (get_or l.offsets k 0) (get_or l.offsets (suc k) 0)) l.cells l.c
