-- Laws of checks: of a test, of two in a row, and of a search for the first place that fails.
--   unless-fine      a check that finds nothing has passed its test
--   andThen-..       two in a row, by what the first finds; and both find nothing where the two do
--   each-..          the search, place by place; each-fine, each-says: it finds nothing where, and only where, each place
--                    passes
-- Assumes nothing.
use Rattle.std.specs.Prelude.{Ok, Err}
use Rattle.refusals.specs.Refusals.{Check}
use mathlib.Core.Path.{◌≡◌, refl}
use mathlib.Core.Bool.{Bool, true, false}
use Prim.Native.Nat.{ℕ, zero, suc, ◌+◌, ◌-◌, ◌≤◌, ◌<◌}
use native.Mathlib.Numerals.{add-one}
use native.Mathlib.Omega.{arith}
use borrow.Author.Tests.{eqb-true, eqb-false}
use lib.Dec.{eqb}
use Rattle.refusals.specs.declared.Refusal.{Refusal}
use Rattle.refusals.specs.Refusals.{refusal, unless, and_then, each_from}

-- ---- one check

pub unless_fine : (b : Bool) (n v : ℕ) → unless b n v ≡ (Ok tt) → b ≡ true
unfolding unless
unless_fine true n v h = refl
unless_fine false n v h = let z : ◌≡◌ {A = ℕ} 0 1 = cc in absurd (omega arith)

-- ---- two in a row

module _ (a b : Check) where
  pub and_then_refused : (r : Refusal) → a ≡ Err r → and_then a b ≡ Err r
  unfolding and_then
  and_then_refused r e = rw e

  pub and_then_fine : a ≡ (Ok tt) → and_then a b ≡ b
  unfolding and_then
  and_then_fine e = rw e

pub and_then_left : (a b : Check) → and_then a b ≡ (Ok tt) → a ≡ Ok tt
unfolding and_then
and_then_left (Ok _) b h = refl
and_then_left (Err r) b h = h

pub and_then_right : (a b : Check) → and_then a b ≡ (Ok tt) → b ≡ Ok tt
unfolding and_then
and_then_right (Ok _) b h = h
and_then_right (Err r) b h = let z : ◌≡◌ {A = ℕ} 0 1 = cc in absurd (omega arith)

-- ---- the first place at which a test fails, by the places that are left

module _ (ok : ℕ → Bool) (number n i : ℕ) where
  pub each_good : i < n → ok i ≡ true → each_from ok number (n - i) i ≡ each_from ok number (n - (i + 1)) (i + 1)
  unfolding each_from unless and_then
  each_good l h = let e : n - i ≡ suc (n - suc i) = omega arith in rw (e, add-one, h)

  pub each_bad : i < n → ok i ≡ false → each_from ok number (n - i) i ≡ Err (refusal number i)
  unfolding each_from unless and_then
  each_bad l h = let e : n - i ≡ suc (n - suc i) = omega arith in rw (e, h)

  pub each_over : n ≤ i → each_from ok number (n - i) i ≡ Ok tt
  unfolding each_from
  each_over l = let e : n - i ≡ 0 = omega arith in rw e

pub each_fine : (ok : ℕ → Bool) (number left i : ℕ) → ((k : ℕ) → i ≤ k → k < i + left → ok k ≡ true) → each_from ok number left i ≡ Ok tt
unfolding each_from unless and_then
each_fine ok number zero i h = refl
each_fine ok number (suc left) i h = rw (h i (omega arith) (omega arith)) (each_fine ok number left (suc i) (λ k l m. h k (omega arith) (omega arith)))

pub each_says : (ok : ℕ → Bool) (number left i k : ℕ) → each_from ok number left i ≡ (Ok tt) → i ≤ k → k < i + left → ok k ≡ true
unfolding each_from
each_says ok number zero i k h l m = absurd (omega arith)
each_says ok number (suc left) i k h l m =
    go (eqb k i) refl (λ n. each_says ok number left (suc i) k (and_then_right (unless (ok i) number i) (each_from ok number left (suc i)) h) n (omega arith))
  where
    go : (b : Bool) → eqb k i ≡ b → (suc i ≤ k → ok k ≡ true) → ok k ≡ true
    go true e later = rw (eqb-true k i e) (unless_fine (ok i) number i (and_then_left (unless (ok i) number i) (each_from ok number left (suc i)) h))
    go false e later = later (omega (arith, eqb-false k i e))
