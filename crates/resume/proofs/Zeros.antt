-- Zero beyond the pairs: after a run through the cells, after a store, and when all but one entry is zero. Assumes nothing.
use mathlib.Core.Path.{◌≡◌, refl, sym, ap, ◌∙◌}
use mathlib.Core.Bool.{Bool, true, false, cond, true≢false}
use mathlib.Core.List.{List, [], ◌∷◌, ◌++◌}
use Prim.Native.Nat.{ℕ, zero, suc, ◌+◌, ◌-◌, ◌≤◌, ◌<◌}
use native.Mathlib.Nat.{sub-zero, zero-sub, suc-sub-suc}
use native.Mathlib.Omega.{arith}
use lib.ListN.{length, get_or, take, set, replicate, length-append, length-replicate}
use lib.Seq.{get_or-set_other}
use Rattle.refusals.specs.Refusals.{zero_beyond}
use Rattle.slices.specs.Slices.{cleared_from}
use Rattle.slices.proofs.Clearing.{zeros_at}
use Rattle.resume.specs.Inside.{ZeroAfter}

-- a store behind the pairs, or the last of them
pub zero_set : (hits more v : ℕ) (xs : List ℕ) → ZeroAfter hits xs → ZeroAfter (hits + more) (set xs hits v)
zero_set hits more v xs z = record { each = λ u h. get_or-set_other xs hits u v 0 (λ e. omega arith) ∙ z.each u (omega arith) }

beyond_at : (xs : List ℕ) (n u : ℕ) → length xs ≤ u → get_or (xs ++ replicate {A = ℕ} n 0) u 0 ≡ 0
beyond_at [] n u h = zeros_at n u
beyond_at (x ∷ xs) n zero h = absurd (omega arith)
beyond_at (x ∷ xs) n (suc u) h = beyond_at xs n u (omega arith)

taken_all : (xs ys : List ℕ) → take (length xs) (xs ++ ys) ≡ xs
taken_all [] ys = refl
taken_all (x ∷ xs) ys = ap (λ (l : List ℕ). x ∷ l) (taken_all xs ys)

-- what an output holds after a run through the cells, where none is made if the test fails
pub record Kept (b : Bool) (hits : ℕ) (xs was is : List ℕ) : Type 0 where
  pub long : length is ≡ length was
  pub taken : take hits is ≡ xs
  pub zeros : b ≡ true → ZeroAfter hits is

pub kept : (b : Bool) (hits : ℕ) (xs was is : List ℕ) → hits ≡ length xs → is ≡ cond b (zero_beyond 0 (length was) xs) was → length xs ≤ length was → (b ≡ false → xs ≡ []) → Kept b hits xs was is
unfolding zero_beyond
kept true hits xs was is eh e h n =
    record {
      long = rw e (rw (length-append, length-replicate) (omega arith));
      taken = rw (e, eh) (taken_all xs (replicate (length was - length xs) 0));
      zeros = λ t. record { each = λ u l. rw e (beyond_at xs (length was - length xs) u (omega arith)) };
    }
kept false hits xs was is eh e h n =
    record {
      long = rw e;
      taken = let z : hits ≡ 0 = rw (n refl) at eh in rw (z, n refl);
      zeros = λ t. absurd (true≢false (sym t));
    }

-- ---- zero from the entry after the pairs on

none_after : (xs : List ℕ) → ((u : ℕ) → get_or xs u 0 ≡ 0) → xs ≡ replicate {A = ℕ} (length xs) 0
none_after [] z = refl
none_after (x ∷ xs) z = let e : x ≡ 0 = z 0 in rw e (ap (λ (l : List ℕ). 0 ∷ l) (none_after xs (λ u. z (suc u))))

one_cleared : (xs : List ℕ) (hits : ℕ) → ((u : ℕ) → hits < u → get_or xs u 0 ≡ 0) → hits < length xs → set xs hits 0 ≡ take hits xs ++ replicate {A = ℕ} (length xs - hits) 0
one_cleared [] hits z h = absurd (omega arith)
one_cleared (x ∷ xs) zero z h = rw sub-zero (ap (λ (l : List ℕ). 0 ∷ l) (none_after xs (λ u. z (suc u) (omega arith))))
one_cleared (x ∷ xs) (suc hits) z h = rw suc-sub-suc (ap (λ (l : List ℕ). x ∷ l) (one_cleared xs hits (λ u l. z (suc u) (omega arith)) (omega arith)))

all_kept : (xs : List ℕ) (hits : ℕ) → length xs ≤ hits → xs ≡ take hits xs ++ replicate {A = ℕ} (length xs - hits) 0
all_kept [] zero h = refl
all_kept [] (suc hits) h = rw zero-sub
all_kept (x ∷ xs) zero h = absurd (omega arith)
all_kept (x ∷ xs) (suc hits) h = rw suc-sub-suc (ap (λ (l : List ℕ). x ∷ l) (all_kept xs hits (omega arith)))

pub finished_one : (xs : List ℕ) (hits : ℕ) → ZeroAfter hits xs → hits < length xs → set xs hits 0 ≡ cleared_from hits xs
unfolding cleared_from
finished_one xs hits z h = one_cleared xs hits z.each h

pub finished_none : (xs : List ℕ) (hits : ℕ) → length xs ≤ hits → xs ≡ cleared_from hits xs
unfolding cleared_from
finished_none xs hits h = all_kept xs hits h
