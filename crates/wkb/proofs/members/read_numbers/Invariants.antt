-- `wkb::members::read_numbers` meets its contract. The invariant: the coordinates of the first i points stand from `to` on. Assumes nothing.
use mathlib.Core.Path.{◌≡◌}
use mathlib.Core.List.{List}
use Prim.Native.Nat.{ℕ, ◌+◌, ◌*◌, ◌≤◌}
use lib.ListN.{length}
use Rattle.wkb.specs.Inside.{numbers_at, PutIn}
use Rattle.wkb.specs.declared.Order.{Order}
use Rattle.wkb.proofs.members.read_numbers.Given as goal

pub record Turned (bs : List ℕ) (at : ℕ) (o : Order) (to : ℕ) (s₀ s : List ℕ) (i : ℕ) : Type 0 where
  pub is : PutIn to (numbers_at o i at bs) s₀ s

abbrev pub invariant-loop-i : goal.invariant-loop-i
invariant-loop-i l = (l.at + 16 * l.n ≤ length l.bytes + 8) × (l.to + l.n ≤ length l.initial.s) × (l.i ≤ l.n) × (length l.s ≡ length l.initial.s) × Turned l.bytes l.at l.order l.to l.initial.s l.s l.i
