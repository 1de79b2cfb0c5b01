-- `members::lines::put_ends` meets its contract. The invariant: the ends of the lines of the first k members, with `at` points, stand at the start.
-- Assumes nothing.
use mathlib.Core.List.{List, map}
use Prim.Native.Nat.{ℕ, ◌+◌, ◌≤◌}
use lib.Ieee.{Float, binary64, of_bits}
use lib.ListN.{length, drop}
use Rattle.wkb.proofs.Stores.{Filling}
use Rattle.members.specs.Inside.{ends_at}
use Rattle.members.proofs.Along.{Along}
use Rattle.members.proofs.lines.put_ends.Given as goal

-- the ends of the lines of the members from k on, the first of which has its first point at `at`
abbrev pub left : List ℕ → List ℕ → ℕ → ℕ → ℕ → List Float
left cs ns skip k at = map (of_bits binary64) (ends_at skip (drop k ns) (drop at cs))

pub record Turned (cs ns : List ℕ) (skip : ℕ) (s₀ s : List Float) (at to k : ℕ) : Type 0 where
  pub along : Along ns (length cs) k at
  pub one : skip ≤ 1
  pub room : 0 + length (left cs ns skip 0 0) ≤ length s₀
  pub filled : Filling 0 (left cs ns skip 0 0) (left cs ns skip k at) to s₀ s

abbrev pub invariant-loop-length : goal.invariant-loop-length
invariant-loop-length l = Turned l.from l.lengths l.skip l.initial.s l.s l.at l.to l.length-index
