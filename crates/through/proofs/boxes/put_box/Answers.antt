-- `through::boxes::put_box` meets its contract. Assumes nothing.
use native.Mathlib.Omega.{arith}
use mathlib.Core.Path.{refl}
use lib.ListN.{length-set}
use Rattle.through.specs.Inside.{with_box}
use Rattle.through.proofs.boxes.put_box.Goals as goal

pub bounds-room-u-2 : goal.bounds-room-u-2
bounds-room-u-2 c = simp length-set (omega arith)

pub bounds-room-u-3 : goal.bounds-room-u-3
bounds-room-u-3 c = simp length-set (omega arith)

pub bounds-room-u-4 : goal.bounds-room-u-4
bounds-room-u-4 c = simp length-set (omega arith)

pub returns : goal.returns
unfolding with_box
returns c = refl
