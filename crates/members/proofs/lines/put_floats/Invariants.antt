-- `members::lines::put_floats` meets its contract. The invariant: the floats of the first i patterns stand from `to` on. Assumes nothing.
use mathlib.Core.Path.{◌≡◌}
use mathlib.Core.List.{List, map}
use Prim.Native.Nat.{ℕ, ◌+◌, ◌≤◌}
use lib.Ieee.{Float, binary64, of_bits}
use lib.ListN.{length, take, drop}
use Rattle.wkb.specs.Inside.{PutIn}
use Rattle.members.proofs.lines.put_floats.Given as goal

pub record Turned (from : List ℕ) (at to : ℕ) (s₀ s : List Float) (i : ℕ) : Type 0 where
  pub is : PutIn to (map (of_bits binary64) (take i (drop at from))) s₀ s

abbrev pub invariant-loop-i : goal.invariant-loop-i
invariant-loop-i l = (l.at + l.n ≤ length l.from) × (l.to + l.n ≤ length l.initial.s) × (l.i ≤ l.n) × (length l.s ≡ length l.initial.s) × Turned l.from l.at l.to l.initial.s l.s l.i
