-- A sample raised by 2^29, which is a number from 0 to 2^30: so it fits 32 bits with a sign and without. Assumes nothing.
use mathlib.Core.Path.{◌≡◌, refl, sym, ap, ◌∙◌}
use mathlib.Core.Bool.{Bool, true, false, true≢false, ◌&&◌}
use Prim.Native.Nat.{ℕ, suc, ◌*◌, ◌≤◌}
use native.Mathlib.Nat.{add_comm, mul-le-mul}
use native.Mathlib.Omega.{arith}
use borrow.Author.Tests.{ltb-true, ltb-false, leb-true, le-leb, lt-leb, le-ltb}
use lib.Dec.{T, leb}
use lib.IntN.{ℤ, pos, negsuc, nat_abs, ◌+ℤ◌}
use lib.Signed.{lt_z, non_neg}
use mir.Syntax.{w32}
use mir.Val.{Fits, SFits, to_z, of_z}
use mir.Facts.{to_z-of_z}
use Rattle.grid.specs.Points.{WholeSegment}
use Rattle.grid.proofs.Bools.{and_left, and_right}
use Rattle.samples.specs.declared.Raised.{Raised}
use Rattle.samples.specs.Samples.{sample, lifted, raised, raised_of, all_samples, sampled}
use Rattle.samples.specs.Sharing.{left_sum, right_sum}

-- ---- one number

pub raised_none : (z : ℤ) → sample z ≡ false → raised z ≡ 4294967295
unfolding raised
raised_none z h = rw h

pub raised_is : (z : ℤ) → sample z ≡ true → raised z ≡ lifted z
unfolding raised
raised_is z h = rw h

pub below_none : (z : ℤ) → lt_z z (negsuc 536870911) ≡ true → sample z ≡ false
unfolding sample
below_none (pos n) h = absurd (true≢false (sym h))
below_none (negsuc n) h = let l = ltb-true 536870911 n h in lt-leb (suc n) 536870912 (omega arith)

pub above_none : (z : ℤ) → lt_z (pos 536870912) z ≡ true → sample z ≡ false
unfolding sample
above_none (pos n) h = let l = ltb-true 536870912 n h in lt-leb n 536870912 (omega arith)
above_none (negsuc n) h = absurd (true≢false (sym h))

pub between_sample : (z : ℤ) → lt_z z (negsuc 536870911) ≡ false → lt_z (pos 536870912) z ≡ false → sample z ≡ true
unfolding sample
between_sample (pos n) a b = let l = ltb-false 536870912 n b in le-leb n 536870912 (omega arith)
between_sample (negsuc n) a b = let l = ltb-false 536870911 n a in le-leb (suc n) 536870912 (omega arith)

-- z + 2^29
pub lifted_sum : (z : ℤ) → sample z ≡ true → z +ℤ pos 536870912 ≡ pos (lifted z)
unfolding sample lifted
lifted_sum (pos n) h = ap pos (add_comm n 536870912)
lifted_sum (negsuc n) h = let l = leb-true (suc n) 536870912 h in rw (le-ltb 536870912 (suc n) l)

pub lifted_most : (z : ℤ) → sample z ≡ true → lifted z ≤ 1073741824
unfolding sample lifted
lifted_most (pos n) h = let l = leb-true n 536870912 h in omega arith
lifted_most (negsuc n) h = omega arith

-- the sum as the machine holds it: its bits, read back
module _ (z : ℤ) (fits : SFits w32 z) (h : sample z ≡ true) where
  pub sum_bits : to_z w32 (of_z w32 z) +ℤ pos 536870912 ≡ pos (lifted z)
  sum_bits = rw (to_z-of_z fits) (lifted_sum z h)

  lifted_fits : SFits w32 (pos (lifted z))
  lifted_fits = let l = lifted_most z h in record { sfits = omega arith }

  pub sum_fits : SFits w32 (to_z w32 (of_z w32 z) +ℤ pos 536870912)
  sum_fits = rw sum_bits lifted_fits

  pub sum_back : to_z w32 (of_z w32 (to_z w32 (of_z w32 z) +ℤ pos 536870912)) ≡ pos (lifted z)
  sum_back = ap (λ (k : ℤ). to_z w32 (of_z w32 k)) sum_bits ∙ to_z-of_z lifted_fits

  pub sum_cast : T (non_neg (to_z w32 (of_z w32 (to_z w32 (of_z w32 z) +ℤ pos 536870912)))) × Fits w32 (nat_abs (to_z w32 (of_z w32 (to_z w32 (of_z w32 z) +ℤ pos 536870912))))
  sum_cast = rw sum_back (let l = lifted_most z h in (tt, record { fits = omega arith }))

  pub sum_raised : nat_abs (to_z w32 (of_z w32 (to_z w32 (of_z w32 z) +ℤ pos 536870912))) ≡ raised z
  sum_raised = rw (raised_is z h) (ap nat_abs sum_back)

-- ---- a line

pub record Small (a : Raised) : Type 0 where
  pub start_x : a.start_x ≤ 1073741824
  pub start_y : a.start_y ≤ 1073741824
  pub end_x : a.end_x ≤ 1073741824
  pub end_y : a.end_y ≤ 1073741824

pub sampled_small : (a : Raised) → sampled a ≡ true → Small a
unfolding sampled
sampled_small a h = go (leb a.start_x 1073741824) (leb a.start_y 1073741824) (leb a.end_x 1073741824) (leb a.end_y 1073741824) refl refl refl refl h
  where
    go : (p q r s : Bool) → leb a.start_x 1073741824 ≡ p → leb a.start_y 1073741824 ≡ q → leb a.end_x 1073741824 ≡ r → leb a.end_y 1073741824 ≡ s → (p && (q && (r && s))) ≡ true → Small a
    go p q r s e f g i h =
        let h₁ = and_right p (q && (r && s)) h in
        let h₂ = and_right q (r && s) h₁ in
        record {
          start_x = leb-true _ _ (e ∙ and_left p (q && (r && s)) h);
          start_y = leb-true _ _ (f ∙ and_left q (r && s) h₁);
          end_x = leb-true _ _ (g ∙ and_left r s h₂);
          end_y = leb-true _ _ (i ∙ and_right r s h₂);
        }

pub product_most : (a b : ℕ) → a ≤ 1073741824 → b ≤ 1073741824 → a * b ≤ 1152921504606846976
product_most a b h k = mul-le-mul h k

-- NOTHING WRAPS: a sum of a line and a point is at most 3 x 2^60, below 2^64
pub left_most : (a : Raised) (x y : ℕ) → Small a → x ≤ 1073741824 → y ≤ 1073741824 → left_sum a x y ≤ 3458764513820540928
unfolding left_sum
left_most a x y s h k =
    omega (arith, product_most a.end_x y s.end_x k, product_most a.start_x a.end_y s.start_x s.end_y, product_most x a.start_y h s.start_y)

pub right_most : (a : Raised) (x y : ℕ) → Small a → x ≤ 1073741824 → y ≤ 1073741824 → right_sum a x y ≤ 3458764513820540928
unfolding right_sum
right_most a x y s h k =
    omega (arith, product_most a.end_x a.start_y s.end_x s.start_y, product_most a.start_x y s.start_x k, product_most x a.end_y h s.end_y)

-- a number is a sample where it is at most 2^30 when raised
sample_raised : (z : ℤ) → leb (raised z) 1073741824 ≡ sample z
sample_raised z = go (sample z) refl
  where
    go : (b : Bool) → sample z ≡ b → leb (raised z) 1073741824 ≡ b
    go true h = le-leb (raised z) 1073741824 (rw (raised_is z h) (lifted_most z h))
    go false h = rw (raised_none z h)

pub sampled_raised : (s : WholeSegment) → sampled (raised_of s) ≡ all_samples s
unfolding sampled all_samples
sampled_raised s =
    rw (sample_raised s.start_x, sample_raised s.start_y, sample_raised s.end_x, sample_raised s.end_y)
