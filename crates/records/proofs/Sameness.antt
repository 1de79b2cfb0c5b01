-- How far two rows of words are the same. Assumes nothing.
use Prim.Native.Nat.{ℕ, zero, suc, ◌≤◌, ◌<◌, min}
use native.Mathlib.Omega.{arith}
use native.Mathlib.Nat.{min-eq_left, min-eq_right}
use native.Mathlib.Decide.{ℕ_discrete}
use mathlib.Core.Logic.{inl, inr}
use mathlib.Core.Path.{◌≡◌, refl}
use mathlib.Core.List.{List, [], ◌∷◌, cons≢nil, head-eq_of_cons-eq, tail-eq_of_cons-eq}
use borrow.Author.Tests.{eq-eqb, ne_eqb}
use lib.ListN.{length, take, drop, get_or, drop_of_length-le}
use lib.Seq.{drop-cons}
use Rattle.std.proofs.lemmas.Bool.{cases_lt}
use Rattle.records.specs.Words.{same_to}

-- ---- the words up to the first that differs

same_more : (x y : ℕ) (a b : List ℕ) → x ≡ y → same_to (x ∷ a) (y ∷ b) ≡ suc (same_to a b)
unfolding same_to
same_more x y a b e = rw (eq-eqb x y e)

same_none : (x y : ℕ) (a b : List ℕ) → (x ≡ y → ⊥) → same_to (x ∷ a) (y ∷ b) ≡ 0
unfolding same_to
same_none x y a b h = rw (ne_eqb x y h)

pub same_within : (a b : List ℕ) → same_to a b ≤ length a
unfolding same_to
same_within [] b = omega arith
same_within (x ∷ a) [] = omega arith
same_within (x ∷ a) (y ∷ b) = elim (ℕ_discrete x y) [
  | yes e ↦ (rw (same_more x y a b e) (omega (arith, same_within a b)))
  | no h ↦ (rw (same_none x y a b h) (omega arith))
]

-- the first n words are the same in both, up to that place and no further
pub same_take : (n : ℕ) (a b : List ℕ) → n ≤ same_to a b → take n a ≡ take n b
unfolding same_to
same_take zero a b h = refl
same_take (suc n) [] b h = absurd (omega (arith, h))
same_take (suc n) (x ∷ a) [] h = absurd (omega (arith, h))
same_take (suc n) (x ∷ a) (y ∷ b) h = elim (ℕ_discrete x y) [
  | yes e ↦ (let g = rw (same_more x y a b e) at h in rw (e, same_take n a b (omega (arith, g))))
  | no d ↦ absurd (let g = rw (same_none x y a b d) at h in omega (arith, g))
]

pub take_same : (n : ℕ) (a b : List ℕ) → n ≤ length a → take n a ≡ take n b → n ≤ same_to a b
unfolding same_to
take_same zero a b h e = omega arith
take_same (suc n) [] b h e = absurd (omega (arith, h))
take_same (suc n) (x ∷ a) [] h e = absurd (cons≢nil e)
take_same (suc n) (x ∷ a) (y ∷ b) h e =
    rw (same_more x y a b (head-eq_of_cons-eq e)) (omega (arith, take_same n a b (omega (arith, h)) (tail-eq_of_cons-eq e)))

-- ---- word by word

pub same_next : (a b : List ℕ) (i : ℕ) → i < length a → i < length b → get_or a i 0 ≡ get_or b i 0 →
    same_to (drop i a) (drop i b) ≡ suc (same_to (drop (suc i) a) (drop (suc i) b))
same_next a b i h k e = rw (drop-cons a i 0 h, drop-cons b i 0 k) (same_more (get_or a i 0) (get_or b i 0) (drop (suc i) a) (drop (suc i) b) e)

pub same_end : (a b : List ℕ) (i : ℕ) → i < length a → i < length b → (get_or a i 0 ≡ get_or b i 0 → ⊥) → same_to (drop i a) (drop i b) ≡ 0
same_end a b i h k e = rw (drop-cons a i 0 h, drop-cons b i 0 k) (same_none (get_or a i 0) (get_or b i 0) (drop (suc i) a) (drop (suc i) b) e)

-- past the end of one of them
pub past_first : (a b : List ℕ) (i : ℕ) → length a ≤ i → same_to (drop i a) (drop i b) ≡ 0
unfolding same_to
past_first a b i h = rw (drop_of_length-le a h)

none : (a : List ℕ) → same_to a [] ≡ 0
unfolding same_to
none [] = refl
none (x ∷ a) = refl

pub past_second : (a b : List ℕ) (i : ℕ) → length b ≤ i → same_to (drop i a) (drop i b) ≡ 0
past_second a b i h = rw (drop_of_length-le b h) (none (drop i a))

pub past_one : (a b : List ℕ) (i : ℕ) → i ≡ min (length a) (length b) → same_to (drop i a) (drop i b) ≡ 0
past_one a b i e = elim (cases_lt (length a) (length b)) [
  | inl h ↦ past_first a b i (omega (arith, e, min-eq_left {n = length a} {m = length b} (omega (arith, h))))
  | inr h ↦ past_second a b i (omega (arith, e, min-eq_right {n = length b} {m = length a} h))
]
