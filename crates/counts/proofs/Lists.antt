-- The counts of a table, added up one after the other. Assumes nothing.
use mathlib.Core.Path.{◌≡◌, refl}
use mathlib.Core.List.{List}
use Prim.Native.Nat.{ℕ, ◌+◌, ◌≤◌, ◌<◌, ◌^◌}
use native.Mathlib.Numerals.{add-one}
use native.Mathlib.Omega.{arith}
use lib.ListN.{length, get_or}
use Rattle.tables.specs.Lists.{sum}
use Rattle.tables.proofs.Laws.{sum_below}

-- ---- the first c of the counts o are added up

pub record Summing (o : List ℕ) (cells total c : ℕ) : Type 0 where
  pub at : c ≤ cells
  pub room : cells ≤ length o
  pub small : sum (λ k. get_or o k 0) cells < 2 ^ 32
  pub so_far : total ≡ sum (λ k. get_or o k 0) c

pub summing_none : {o : List ℕ} {cells : ℕ} → cells ≤ length o → sum (λ k. get_or o k 0) cells < 2 ^ 32 → Summing o cells 0 0
unfolding sum
summing_none l h = record { at = omega arith; room = l; small = h; so_far = refl }

module _ {o : List ℕ} {cells total c : ℕ} (h : Summing o cells total c) where
  pub summing_fits : c < cells → total + get_or o c 0 < 2 ^ 32
  summing_fits l = omega (arith, h.so_far, h.small, sum_below (λ k. get_or o k 0) c cells l)

  pub summing_more : c < cells → Summing o cells (total + get_or o c 0) (c + 1)
  unfolding sum
  summing_more l = record { at = omega arith; room = h.room; small = h.small; so_far = rw add-one (omega (arith, h.so_far)) }

  pub summing_done : cells ≤ c → total ≡ sum (λ k. get_or o k 0) cells
  summing_done l = let e : c ≡ cells = omega (arith, h.at) in rw e at h.so_far
