-- `walk::beside::spread` meets its contract. Assumes nothing.
use native.Mathlib.Omega.{arith}
use lib.ListN.{length-set}
use Rattle.walk.proofs.Spread.{spread_start, spread_more, spread_done}
use Rattle.walk.proofs.beside.spread.Goals as goal

pub loop-i-init : goal.loop-i-init
loop-i-init c = spread_start _ _ _ c.requires.room

pub bounds-s-k-in-loop-i : goal.bounds-s-k-in-loop-i
bounds-s-k-in-loop-i c = simp length-set (omega arith)

pub loop-i-preserved : goal.loop-i-preserved
loop-i-preserved c = spread_more c.loop-i.invariant (omega arith) _ c.lower.ensures

pub shape_of-s : goal.shape_of-s
shape_of-s c = c.loop-i.invariant.len

pub returns : goal.returns
returns c = spread_done c.loop-i.invariant (omega arith)
