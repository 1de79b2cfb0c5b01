-- `replay::room_for_words` meets its contract. Assumes nothing.
use mathlib.Core.Path.{sym}
use Prim.Native.Nat.{ℕ}
use lib.ListN.{length-replicate}
use Rattle.replay.proofs.room_for_words.Goals as goal

pub returns : goal.returns
returns c = sym (length-replicate {A = ℕ} 196608 0)
