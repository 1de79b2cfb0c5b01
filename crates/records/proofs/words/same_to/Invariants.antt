-- `records::words::same_to` meets its contract. The invariant: the words up to i are the same, so i and what is the same from there on make up
-- the whole. Assumes nothing.
use mathlib.Core.Path.{◌≡◌}
use mathlib.Core.List.{List}
use Prim.Native.Nat.{ℕ, ◌+◌, ◌≤◌}
use lib.ListN.{length, drop}
use Rattle.records.specs.Words.{same_to}
use Rattle.records.proofs.words.same_to.Given as goal

pub record Same (a b : List ℕ) (i : ℕ) : Type 0 where
  pub in_a : i ≤ length a
  pub in_b : i ≤ length b
  pub rest : same_to a b ≡ i + same_to (drop i a) (drop i b)

abbrev pub invariant-loop-i : goal.invariant-loop-i
invariant-loop-i l = Same l.a l.b l.i
