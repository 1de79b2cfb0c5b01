-- `fill::offsets::shift_back` meets its contract. Assumes nothing.
use mathlib.Core.Path.{◌≡◌}
use Prim.Native.Nat.{◌+◌, ◌-◌}
use native.Mathlib.Omega.{arith}
use lib.ListN.{length-set}
use Rattle.fill.proofs.Sums.{shifting_none, shifting_more, shifting_done}
use Rattle.fill.proofs.offsets.shift_back.Goals as goal

pub loop-c-init : goal.loop-c-init
loop-c-init c = shifting_none _ _ c.requires

pub loop-c-preserved : goal.loop-c-preserved
loop-c-preserved c =
    let e : c.loop-c.c - 1 + 1 ≡ c.loop-c.c = omega arith in
    rw e (shifting_more c.loop-c.invariant c.loop-c-test.true)

pub shape_of-offsets : goal.shape_of-offsets
shape_of-offsets c = simp length-set c.loop-c.invariant.len

pub returns : goal.returns
returns c = shifting_done c.loop-c.invariant (omega arith)
