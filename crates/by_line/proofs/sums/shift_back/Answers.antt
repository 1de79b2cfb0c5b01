-- `by_line::sums::shift_back` meets its contract. Assumes nothing.
use mathlib.Core.Path.{◌≡◌}
use Prim.Native.Nat.{◌+◌, ◌-◌}
use native.Mathlib.Omega.{arith}
use lib.ListN.{length-set}
use Rattle.fill.proofs.Sums.{shifting_none, shifting_more, shifting_done}
use Rattle.by_line.proofs.sums.shift_back.Goals as goal

pub loop-i-init : goal.loop-i-init
loop-i-init c = shifting_none _ _ c.requires

pub loop-i-preserved : goal.loop-i-preserved
loop-i-preserved c =
    let e : c.loop-i.i - 1 + 1 ≡ c.loop-i.i = omega arith in
    rw e (shifting_more c.loop-i.invariant c.loop-i-test.true)

pub shape_of-starts : goal.shape_of-starts
shape_of-starts c = simp length-set c.loop-i.invariant.len

pub returns : goal.returns
returns c = shifting_done c.loop-i.invariant (omega arith)
