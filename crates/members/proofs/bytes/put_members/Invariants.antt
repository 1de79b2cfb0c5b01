-- `members::bytes::put_members` meets its contract. The invariant: the bytes of the first k members, with `from` points, stand from byte 9 on.
-- Assumes nothing.
use mathlib.Core.Path.{◌≡◌}
use mathlib.Core.List.{List, flat_map}
use Prim.Native.Nat.{ℕ, ◌+◌, ◌≤◌}
use lib.ListN.{length, drop}
use Rattle.wkb.specs.declared.Order.TheVariants.{Little}
use Rattle.wkb.specs.Bytes.{line_bytes}
use Rattle.wkb.proofs.Stores.{Filling}
use Rattle.members.specs.Held.{points_of, chains_of}
use Rattle.members.proofs.Along.{Along}
use Rattle.members.proofs.bytes.put_members.Given as goal

-- the bytes of the members from k on, the first of which has its first point at `from`
abbrev pub left : List ℕ → List ℕ → List ℕ → ℕ → ℕ → List ℕ
left x y ns k from = flat_map (line_bytes Little) (chains_of (drop k ns) (drop from (points_of x y)))

pub record Turned (x y ns s₀ s : List ℕ) (at from k : ℕ) : Type 0 where
  pub alike : length y ≡ length x
  pub along : Along ns (length x) k from
  pub room : 9 + length (left x y ns 0 0) ≤ length s₀
  pub filled : Filling 9 (left x y ns 0 0) (left x y ns k from) at s₀ s

abbrev pub invariant-loop-length : goal.invariant-loop-length
invariant-loop-length l = Turned l.x l.y l.lengths l.initial.s l.s l.at l.from l.length-index
