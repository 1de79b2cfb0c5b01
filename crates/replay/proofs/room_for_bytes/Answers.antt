-- `replay::room_for_bytes` meets its contract. Assumes nothing.
use mathlib.Core.Path.{sym}
use Prim.Native.Nat.{ℕ}
use lib.ListN.{length-replicate}
use Rattle.replay.proofs.room_for_bytes.Goals as goal

pub returns : goal.returns
returns c = sym (length-replicate {A = ℕ} 1572864 0)
