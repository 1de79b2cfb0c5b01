-- `members::bytes::put_points` meets its contract. The invariant: the bytes of the first i points stand from `at` on. Assumes nothing.
use mathlib.Core.Path.{◌≡◌}
use mathlib.Core.List.{List}
use Prim.Native.Nat.{ℕ, ◌+◌, ◌*◌, ◌≤◌}
use lib.ListN.{length, take, drop}
use Rattle.wkb.specs.declared.Order.TheVariants.{Little}
use Rattle.wkb.specs.Bytes.{points_bytes}
use Rattle.wkb.specs.Inside.{PutIn}
use Rattle.members.specs.Held.{points_of}
use Rattle.members.proofs.bytes.put_points.Given as goal

pub record Turned (x y : List ℕ) (from at : ℕ) (s₀ s : List ℕ) (i : ℕ) : Type 0 where
  pub is : PutIn at (points_bytes Little (take i (drop from (points_of x y)))) s₀ s

abbrev pub invariant-loop-i : goal.invariant-loop-i
invariant-loop-i l = (length l.y ≡ length l.x) × (l.from + l.n ≤ length l.x) × (l.at + 16 * l.n ≤ length l.initial.s) × (l.i ≤ l.n) × (length l.s ≡ length l.initial.s) × Turned l.x l.y l.from l.at l.initial.s l.s l.i
