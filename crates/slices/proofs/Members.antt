-- `any` and `elem` of lists that are joined, ordered or thinned; bounds; entries at positions. Assumes nothing.
use mathlib.Core.Path.{◌≡◌, refl, sym, ap, ◌∙◌}
use Prim.Native.Nat.{ℕ, zero, suc, ◌<◌, suc-le-suc}
use native.Mathlib.Nat.{zero-lt-suc, not-suc-le-zero, le_of_suc-le-suc}
use native.Mathlib.Omega.{arith}
use mathlib.Core.Bool.{Bool, true, false, ◌||◌, true≢false, or-true}
use mathlib.Core.List.{List, [], ◌∷◌, ◌++◌}
use lib.ListN.{length, get_or, drop}
use lib.Dec.{eqb, leb}
use borrow.Author.Tests.{eq-eqb, eqb-true}
use Rattle.slices.specs.Slices.{sorted, insert, insert_if, after, cons_unless, distinct_of}
use Rattle.slices.specs.Lists.{any, elem, Below}

-- ---- some entry passes a test

or_swap : (a b c : Bool) → a || (b || c) ≡ b || (a || c)
or_swap true true c = refl
or_swap true false c = refl
or_swap false true c = refl
or_swap false false c = refl

or_twice : (a c : Bool) → a || (a || c) ≡ a || c
or_twice true c = refl
or_twice false c = refl

or_assoc : (a b c : Bool) → (a || b) || c ≡ a || (b || c)
or_assoc true b c = refl
or_assoc false b c = refl

pub any_append : (f : ℕ → Bool) (xs ys : List ℕ) → any f (xs ++ ys) ≡ any f xs || any f ys
any_append f [] ys = refl
any_append f (x ∷ xs) ys = ap (λ (b : Bool). f x || b) (any_append f xs ys) ∙ sym (or_assoc (f x) (any f xs) (any f ys))

any_insert : (f : ℕ → Bool) (x : ℕ) (l : List ℕ) → any f (insert x l) ≡ f x || any f l
unfolding insert insert_if
any_insert f x [] = refl
any_insert f x (y ∷ l) = go (leb x y) (any_insert f x l)
  where
    go : (b : Bool) → any f (insert x l) ≡ f x || any f l → any f (insert_if b x y l (insert x l)) ≡ f x || (f y || any f l)
    go true ih = refl
    go false ih = ap (λ (b : Bool). f y || b) ih ∙ or_swap (f y) (f x) (any f l)

pub any_sorted : (f : ℕ → Bool) (l : List ℕ) → any f (sorted l) ≡ any f l
unfolding sorted
any_sorted f [] = refl
any_sorted f (x ∷ l) = any_insert f x (sorted l) ∙ ap (λ (b : Bool). f x || b) (any_sorted f l)

any_after : (f : ℕ → Bool) (p : ℕ) (l : List ℕ) → f p || any f (after p l) ≡ f p || any f l
unfolding after cons_unless
any_after f p [] = refl
any_after f p (x ∷ l) = go (eqb x p) refl (any_after f x l)
  where
    go : (b : Bool) → eqb x p ≡ b → f x || any f (after x l) ≡ f x || any f l → f p || any f (cons_unless b x (after x l)) ≡ f p || (f x || any f l)
    go true e ih = rw (← eqb-true x p e) (ih ∙ sym (or_twice (f x) (any f l)))
    go false e ih = ap (λ (b : Bool). f p || b) ih

pub any_distinct : (f : ℕ → Bool) (l : List ℕ) → any f (distinct_of l) ≡ any f l
unfolding distinct_of
any_distinct f [] = refl
any_distinct f (x ∷ l) = any_after f x l

-- the ordered list with one of each passes what the list passes
pub any_one_of_each : (f : ℕ → Bool) (l : List ℕ) → any f (distinct_of (sorted l)) ≡ any f l
any_one_of_each f l = any_distinct f (sorted l) ∙ any_sorted f l

-- ... and has exactly its members
pub elem_one_of_each : (v : ℕ) (l : List ℕ) → elem v (distinct_of (sorted l)) ≡ elem v l
elem_one_of_each v l = any_one_of_each (eqb v) l

-- ---- members and positions

pub elem_head : (x : ℕ) (l : List ℕ) → elem x (x ∷ l) ≡ true
elem_head x l = rw (eq-eqb x x refl)

pub elem_at : (l : List ℕ) (k : ℕ) → k < length l → elem (get_or l k 0) l ≡ true
elem_at [] k h = absurd (not-suc-le-zero h)
elem_at (x ∷ l) zero h = elem_head x l
elem_at (x ∷ l) (suc k) h = ap (λ (b : Bool). eqb (get_or l k 0) x || b) (elem_at l k (le_of_suc-le-suc h)) ∙ or-true (eqb (get_or l k 0) x)

-- a member of either part is one of the whole
pub elem_left : (v : ℕ) (xs ys : List ℕ) → elem v xs ≡ true → elem v (xs ++ ys) ≡ true
elem_left v xs ys h = any_append (eqb v) xs ys ∙ ap (λ (b : Bool). b || elem v ys) h

pub elem_right : (v : ℕ) (xs ys : List ℕ) → elem v ys ≡ true → elem v (xs ++ ys) ≡ true
elem_right v xs ys h = any_append (eqb v) xs ys ∙ ap (λ (b : Bool). elem v xs || b) h ∙ or-true (elem v xs)

-- a place at which v stands
pub record Place (v : ℕ) (l : List ℕ) : Type 0 where
  pub k : ℕ
  pub within : k < length l
  pub is : get_or l k 0 ≡ v

pub place_of : (v : ℕ) (l : List ℕ) → elem v l ≡ true → Place v l
place_of v [] h = absurd (true≢false (sym h))
place_of v (x ∷ l) h = go (eqb v x) refl h (place_of v l)
  where
    go : (b : Bool) → eqb v x ≡ b → b || elem v l ≡ true → (elem v l ≡ true → Place v l) → Place v (x ∷ l)
    go true e q ih = record { k = zero; within = zero-lt-suc (length l); is = sym (eqb-true v x e) }
    go false e q ih = let p = ih q in record { k = suc p.k; within = suc-le-suc p.within; is = p.is }

-- ---- bounds

pub below_elem : (n v : ℕ) (l : List ℕ) → Below n l → elem v l ≡ true → v < n
below_elem n v [] b h = absurd (true≢false (sym h))
below_elem n v (x ∷ l) b h = go (eqb v x) refl h (below_elem n v l b.1)
  where
    go : (t : Bool) → eqb v x ≡ t → t || elem v l ≡ true → (elem v l ≡ true → v < n) → v < n
    go true e q ih = let w : v ≡ x = eqb-true v x e in omega (arith, b.0)
    go false e q ih = ih q

pub below_of : (n : ℕ) (l : List ℕ) → ((v : ℕ) → elem v l ≡ true → v < n) → Below n l
below_of n [] h = tt
below_of n (x ∷ l) h = (h x (elem_head x l), below_of n l (λ v e. h v (ap (λ (b : Bool). eqb v x || b) e ∙ or-true (eqb v x))))

pub below_at : (n : ℕ) (l : List ℕ) (k : ℕ) → Below n l → k < length l → get_or l k 0 < n
below_at n l k b h = below_elem n (get_or l k 0) l b (elem_at l k h)

pub below_append : (n : ℕ) (xs ys : List ℕ) → Below n xs → Below n ys → Below n (xs ++ ys)
below_append n [] ys a b = b
below_append n (x ∷ xs) ys a b = (a.0, below_append n xs ys a.1 b)

pub below_drop : (n : ℕ) (l : List ℕ) (k : ℕ) → Below n l → Below n (drop k l)
below_drop n l zero b = b
below_drop n [] (suc k) b = tt
below_drop n (x ∷ l) (suc k) b = below_drop n l k b.1

pub below_one_of_each : (n : ℕ) (l : List ℕ) → Below n l → Below n (distinct_of (sorted l))
below_one_of_each n l b = below_of n (distinct_of (sorted l)) (λ v e. below_elem n v l b (sym (elem_one_of_each v l) ∙ e))
