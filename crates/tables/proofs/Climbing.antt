-- A list whose entries rise, looked at entry by entry: it increases below every number that its last entry is below. Assumes nothing.
use mathlib.Core.Path.{◌≡◌, refl, ap, subst, ◌∙◌}
use mathlib.Core.Bool.{Bool, true, false, ◌&&◌, and-true}
use mathlib.Core.List.{List, [], ◌∷◌}
use Prim.Native.Nat.{ℕ, suc, ◌+◌, ◌-◌, ◌≤◌, ◌<◌}
use native.Mathlib.Numerals.{add-one}
use native.Mathlib.Omega.{arith}
use lib.ListN.{length, get_or, drop, drop_of_length-le}
use lib.Seq.{drop-cons}
use lib.Dec.{ltb}
use borrow.Author.Tests.{le-leb, lt-ltb, ltb-true}
use Rattle.tables.specs.Fit.{increases}

-- the entries before entry i rise, if `all`; p is the last of them, and what is left has to increase above it
abbrev pub Climb : List ℕ → Bool → ℕ → ℕ → Type 0
Climb xs all p i = (n : ℕ) → increases 0 n xs ≡ (all && (ltb p n && increases (suc p) n (drop i xs)))

climb_first : (xs : List ℕ) → 0 < length xs → Climb xs true (get_or xs 0 0) 1
unfolding increases
climb_first [] h n = absurd (omega arith)
climb_first (x ∷ xs) h n = ap (λ (b : Bool). b && (ltb x n && increases (suc x) n xs)) (le-leb 0 x (omega arith))

-- where p is below v, and v below n, p is below n
lower : (all a b d r : Bool) → (a ≡ true → b ≡ true → d ≡ true) → (all && (d && (a && (b && r)))) ≡ ((all && a) && (b && r))
lower false a b d r h = refl
lower true true true d r h = ap (λ (t : Bool). t && r) (h refl refl)
lower true true false true r h = refl
lower true true false false r h = refl
lower true false b true r h = refl
lower true false b false r h = refl

climb_more : (xs : List ℕ) (all : Bool) (p i : ℕ) → i < length xs → Climb xs all p i → Climb xs (all && ltb p (get_or xs i 0)) (get_or xs i 0) (i + 1)
unfolding increases
climb_more xs all p i h k n =
    let v = get_or xs i 0 in
    let e : drop i xs ≡ v ∷ drop (i + 1) xs = rw (add-one) (drop-cons xs i 0 h) in
    k n
    ∙ ap (λ (l : List ℕ). all && (ltb p n && increases (suc p) n l)) e
    ∙ lower all (ltb p v) (ltb v n) (ltb p n) (increases (suc v) n (drop (i + 1) xs)) (λ s t. lt-ltb p n (omega (arith, ltb-true p v s, ltb-true v n t)))

climb_last : (xs : List ℕ) (all : Bool) (p i : ℕ) → length xs ≤ i → Climb xs all p i → (n : ℕ) → increases 0 n xs ≡ (all && ltb p n)
unfolding increases
climb_last xs all p i h k n = k n ∙ rw (drop_of_length-le xs {i = i} h) (ap (λ (b : Bool). all && b) (and-true (ltb p n)))

-- the loop: the entries before entry i were looked at, of a list that has some
pub record Climbed (xs : List ℕ) (all : Bool) (i : ℕ) : Type 0 where
  pub begun : 0 < i
  pub within : i ≤ length xs
  pub climbs : Climb xs all (get_or xs (i - 1) 0) i

pub climbed_first : (xs : List ℕ) → 0 < length xs → Climbed xs true 1
climbed_first xs h = record { begun = omega arith; within = omega arith; climbs = climb_first xs h }

pub climbed_more : (xs : List ℕ) (all : Bool) (i : ℕ) → i < length xs → Climbed xs all i → Climbed xs (all && ltb (get_or xs (i - 1) 0) (get_or xs i 0)) (i + 1)
climbed_more xs all i h s =
    let e : i ≡ i + 1 - 1 = omega arith in
    record {
      begun = omega arith;
      within = omega arith;
      climbs = subst (λ (k : ℕ). Climb xs (all && ltb (get_or xs (i - 1) 0) (get_or xs i 0)) (get_or xs k 0) (i + 1)) e (climb_more xs all (get_or xs (i - 1) 0) i h s.climbs);
    }

pub climbed_last : (xs : List ℕ) (all : Bool) (i : ℕ) → length xs ≤ i → Climbed xs all i → (n : ℕ) → increases 0 n xs ≡ (all && ltb (get_or xs (length xs - 1) 0) n)
climbed_last xs all i h s n =
    let e : i ≡ length xs = omega (arith, s.within) in
    climb_last xs all (get_or xs (i - 1) 0) i h s.climbs n ∙ ap (λ (k : ℕ). all && ltb (get_or xs (k - 1) 0) n) e

-- a list without entries
pub none_increase : (n : ℕ) (xs : List ℕ) → length xs ≡ 0 → true ≡ increases 0 n xs
unfolding increases
none_increase n [] h = refl
none_increase n (x ∷ xs) h = absurd (omega arith)
