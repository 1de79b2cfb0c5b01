-- `wkb::read_axis` meets its contract. The invariant: the coordinates of the first i points stand at the start. Assumes nothing.
use mathlib.Core.Path.{◌≡◌}
use mathlib.Core.List.{List, map}
use Prim.Native.Nat.{ℕ, ◌+◌, ◌*◌, ◌≤◌}
use lib.Ieee.{Float, binary64, of_bits}
use lib.ListN.{length}
use Rattle.wkb.specs.Inside.{numbers_at, PutIn}
use Rattle.wkb.specs.declared.Order.{Order}
use Rattle.wkb.proofs.read_axis.Given as goal

-- after i turns: the coordinates of the first i points, then what the slice held
pub record Turned (bs : List ℕ) (at : ℕ) (o : Order) (s₀ s : List Float) (i : ℕ) : Type 0 where
  pub is : PutIn 0 (map (of_bits binary64) (numbers_at o i at bs)) s₀ s

abbrev pub invariant-loop-i : goal.invariant-loop-i
invariant-loop-i l = (l.at + 16 * l.n ≤ length l.bytes + 8) × (l.n ≤ length l.initial.s) × (l.i ≤ l.n) × (length l.s ≡ length l.initial.s) × Turned l.bytes l.at l.order l.initial.s l.s l.i
