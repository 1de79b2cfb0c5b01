-- The lines but those of a list: a run of lines that are none of them, one that is, and how many there are. Assumes nothing.
use mathlib.Core.Path.{◌≡◌, refl, sym, ap, ◌∙◌}
use mathlib.Core.Bool.{true, false}
use mathlib.Core.List.{List, [], ◌∷◌, ◌++◌}
use Prim.Native.Nat.{ℕ, zero, suc, ◌+◌, ◌≤◌, ◌<◌}
use native.Mathlib.Nat.{add-zero, zero-add}
use native.Mathlib.Decide.{ℕ_discrete}
use native.Mathlib.Omega.{arith}
use lib.ListN.{length, get_or, take, drop}
use lib.Seq.{drop_at}
use lib.Dec.{eqb}
use borrow.Author.Tests.{ne_eqb}
use Rattle.slices.specs.Lists.{elem, Below, Rising}
use Rattle.slices.proofs.Members.{elem_head}
use Rattle.slices.proofs.Distinct.{head_alone}
use Rattle.seek.specs.Tests.{others}
use Rattle.seek.specs.Inside.{numbers}
use Rattle.seek.proofs.Clauses.{others_zero, others_suc, others_in, others_out, numbers_zero, numbers_suc}

-- what stands at no position is no entry
pub elem_none : (v : ℕ) (xs : List ℕ) → ((a : ℕ) → a < length xs → get_or xs a 0 ≡ v → ⊥) → elem v xs ≡ false
elem_none v [] h = refl
elem_none v (x ∷ xs) h =
    let e : eqb v x ≡ false = ne_eqb v x (λ e. h 0 (omega arith) (sym e)) in
    rw e (elem_none v xs (λ a l e. h (suc a) (omega arith) e))

pub length_numbers : (d k : ℕ) → length (numbers d k) ≡ d
length_numbers zero k = rw numbers_zero
length_numbers (suc d) k = rw numbers_suc (ap suc (length_numbers d (suc k)))

-- d lines from k on, none of them in the list
pub others_run : (d left k : ℕ) (xs : List ℕ) → ((x : ℕ) → k ≤ x → x < k + d → elem x xs ≡ false) → others xs (d + left) k ≡ numbers d k ++ others xs left (k + d)
others_run zero left k xs h = rw (zero-add, numbers_zero, add-zero)
others_run (suc d) left k xs h =
    let e : suc d + left ≡ suc (d + left) = omega arith in
    let e₁ : k + suc d ≡ suc k + d = omega arith in
    rw (e, numbers_suc, e₁, others_out xs (d + left) k (h k (omega arith) (omega arith)))
    (ap (λ (l : List ℕ). k ∷ l) (others_run d left (suc k) xs (λ x a b. h x (omega arith) (omega arith))))

-- the same, passed
pub others_jump : (d left k : ℕ) (xs : List ℕ) → ((x : ℕ) → k ≤ x → x < k + d → elem x xs ≡ false) → drop d (others xs (d + left) k) ≡ others xs left (k + d)
others_jump d left k xs h = ap (drop d) (others_run d left k xs h) ∙ drop_at (numbers d k) (others xs left (k + d)) d (length_numbers d k)

-- ---- how many they are, of a list that rises

others_past : (x : ℕ) (xs : List ℕ) (left k : ℕ) → x < k → others (x ∷ xs) left k ≡ others xs left k
others_past x xs zero k h = simp others_zero
others_past x xs (suc left) k h =
    let e : eqb k x ≡ false = ne_eqb k x (λ e. omega arith) in
    let i : elem k (x ∷ xs) ≡ elem k xs = rw e in
    rw (others_suc, others_suc, i, others_past x xs left (suc k) (omega arith))

count_cons : (left k x : ℕ) (xs : List ℕ) → Rising k (x ∷ xs)
    → (Rising (suc k) xs → length (others xs left (suc k)) + length xs ≡ left)
    → (Rising (suc k) (x ∷ xs) → length (others (x ∷ xs) left (suc k)) + suc (length xs) ≡ left)
    → Dec (x ≡ k) → length (others (x ∷ xs) (suc left) k) + suc (length xs) ≡ suc left
count_cons left k x xs r hit miss (yes e) =
    let i : elem k (x ∷ xs) ≡ true = rw e (elem_head k xs) in
    let r₁ : Rising (suc k) xs = rw e at r.1 in
    rw (others_in (x ∷ xs) left k i, others_past x xs left (suc k) (omega arith)) (omega (arith, hit r₁))
count_cons left k x xs r hit miss (no e) =
    let h : suc k ≤ x = omega (arith, r.0, e) in
    let r₁ : Rising (suc k) (x ∷ xs) = (h, r.1) in
    rw (others_out (x ∷ xs) left k (head_alone k (x ∷ xs) r₁)) (omega (arith, miss r₁))

pub others_count : (left k n : ℕ) (xs : List ℕ) → n ≡ k + left → Rising k xs → Below n xs → length (others xs left k) + length xs ≡ left
others_count zero k n [] e r b = rw others_zero (omega arith)
others_count zero k n (x ∷ xs) e r b = absurd (omega (arith, r.0, b.0))
others_count (suc left) k n [] e r b = rw (others_out [] left k refl) (omega (arith, others_count left (suc k) n [] (omega arith) tt tt))
others_count (suc left) k n (x ∷ xs) e r b =
    count_cons left k x xs r
    (λ q. others_count left (suc k) n xs (omega arith) q b.1)
    (λ q. others_count left (suc k) n (x ∷ xs) (omega arith) q b)
    (ℕ_discrete x k)

-- the first t entries of a list that rises by positions
pub rising_take : (gs : List ℕ) (t k : ℕ) → t ≤ length gs → (0 < t → k ≤ get_or gs 0 0) → ((a b : ℕ) → a < b → b < t → get_or gs a 0 < get_or gs b 0) → Rising k (take t gs)
rising_take gs zero k l f r = tt
rising_take [] (suc t) k l f r = tt
rising_take (x ∷ gs) (suc t) k l f r = (
  f (omega arith),
  rising_take gs t (suc x) (omega arith) (λ (h : 0 < t). r 0 1 (omega arith) (omega arith)) (λ a b h i. r (suc a) (suc b) (omega arith) (omega arith)),
)

pub below_take : (gs : List ℕ) (t n : ℕ) → t ≤ length gs → ((a : ℕ) → a < t → get_or gs a 0 < n) → Below n (take t gs)
below_take gs zero n l b = tt
below_take [] (suc t) n l b = tt
below_take (x ∷ gs) (suc t) n l b = (b 0 (omega arith), below_take gs t n (omega arith) (λ a h. b (suc a) (omega arith)))
