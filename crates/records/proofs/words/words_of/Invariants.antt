-- `records::words::words_of` meets its contract. The invariant: the first i entries are the words of the bytes, and the others as they were. Assumes nothing.
use mathlib.Core.Path.{◌≡◌}
use mathlib.Core.List.{List, ◌++◌}
use Prim.Native.Nat.{ℕ, ◌/◌, ◌≤◌, min}
use lib.ListN.{length, drop}
use Rattle.records.specs.Words.{words_of}
use Rattle.records.proofs.words.words_of.Given as goal

pub record Filled (bs out₀ : List ℕ) (n i : ℕ) (out : List ℕ) : Type 0 where
  pub least : n ≡ min (length bs / 8) (length out₀)
  pub len : length out ≡ length out₀
  pub within : i ≤ n
  pub is : out ≡ words_of i bs ++ drop i out₀

abbrev pub invariant-loop-i : goal.invariant-loop-i
invariant-loop-i l = Filled l.bytes l.initial.out l.n l.i l.out
