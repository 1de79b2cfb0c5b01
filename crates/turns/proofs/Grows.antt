-- What a push adds, and a push that leaves out what is there already. Assumes nothing.
use Rattle.std.proofs.Common.{◌≡◌, ℕ, zero, suc, ◌+◌, ◌-◌, ◌*◌, ◌<◌, ◌≤◌, Bool, true, false, cond, ◌&&◌, ◌||◌, eqb, ltb, List, [], ◌∷◌, ◌++◌, length, get_or, take, set, sym, refl, ◌∙◌, subst, true≢false, arith, length-take-le, get_or-take, le-ltb, lt-ltb, eqb-true}
use Rattle.slices.specs.Lists.{any, elem}
use Rattle.slices.proofs.Members.{any_append, elem_at}
use Rattle.cover.specs.Inside.{Appended}
use Rattle.cover.proofs.Growing.{none, one}
use Rattle.turns.specs.Pushes.{kept_if}
use Rattle.turns.specs.Trails.{last_is, unless_there}
use Rattle.turns.specs.InsideModular.{push_by}

module _ (cols rows col row : ℕ) where
  pub inside : col < cols → row < rows → push_by cols rows col row ≡ (row * cols + col) ∷ []
  unfolding push_by kept_if
  inside h k = rw (lt-ltb col cols h, lt-ltb row rows k)

  pub beyond_row : col < cols → rows ≤ row → push_by cols rows col row ≡ []
  unfolding push_by kept_if
  beyond_row h k = rw (lt-ltb col cols h, le-ltb row rows k)

  pub beyond_col : cols ≤ col → push_by cols rows col row ≡ []
  unfolding push_by kept_if
  beyond_col h = rw (le-ltb col cols h)

  kept_le : (b : Bool) (c : ℕ) → length (kept_if b c) ≤ 1
  unfolding kept_if
  kept_le true c = omega arith
  kept_le false c = omega arith

  pub at_most_one : length (push_by cols rows col row) ≤ 1
  unfolding push_by
  at_most_one = kept_le (ltb col cols && ltb row rows) (row * cols + col)

-- ---- a push that leaves out what is there already

or_last : (a b c : Bool) → (b ≡ true → a ≡ true) → (a || c) ≡ (a || (b || c))
or_last true b c h = refl
or_last false true c h = absurd (true≢false (sym (h refl)))
or_last false false c h = refl

-- a test that passes at an entry passes in the list
passes : (f : ℕ → Bool) (c : ℕ) (l : List ℕ) → elem c l ≡ true → f c ≡ true → any f l ≡ true
passes f c [] e h = absurd (true≢false (sym e))
passes f c (x ∷ l) e h = go (eqb c x) refl e (λ d. passes f c l d h)
  where
    or_right : (a b : Bool) → b ≡ true → (a || b) ≡ true
    or_right true b k = refl
    or_right false b k = k

    go : (b : Bool) → eqb c x ≡ b → (b || elem c l) ≡ true → (elem c l ≡ true → any f l ≡ true) → (f x || any f l) ≡ true
    go true k d later = rw (← eqb-true c x k, h)
    go false k d later = or_right (f x) (any f l) (later d)

pub last_none : (s : List ℕ) (n c : ℕ) → n ≡ 0 → false ≡ last_is n s c
unfolding last_is
last_none s n c e = rw e

pub last_one : (s : List ℕ) (n c : ℕ) → 0 < n → eqb (get_or s (n - 1) 0) c ≡ last_is n s c
unfolding last_is
last_one s zero c h = absurd (omega arith)
last_one s (suc n) c h = let e : suc n - 1 ≡ n = omega arith in rw e

last_at : (s : List ℕ) (n c : ℕ) → n ≤ length s → last_is n s c ≡ true → elem c s ≡ true
unfolding last_is
last_at s zero c l e = absurd (true≢false (sym e))
last_at s (suc n) c l e = subst (λ (v : ℕ). elem v s ≡ true) (eqb-true (get_or s n 0) c e) (elem_at s n (omega arith))

last_elem : (s : List ℕ) (c : ℕ) → last_is (length s) s c ≡ true → elem c s ≡ true
last_elem s c e = last_at s (length s) c (omega arith) e

-- of the first n of s, or of the list that they are
last_take : (s : List ℕ) (n c : ℕ) → n ≤ length s → last_is (length (take n s)) (take n s) c ≡ last_is n s c
unfolding last_is
last_take s zero c h = refl
last_take s (suc n) c h = rw (length-take-le (suc n) s h, get_or-take (suc n) s n 0 (omega arith))

-- ---- the end cell, as the code's branches push it

module _ {s : List ℕ} {n c : ℕ} {more : List ℕ} (e : more ≡ c ∷ []) where
  pub left_out : n ≤ length s → last_is n s c ≡ true → Appended s s n n (unless_there (take n s) more)
  unfolding unless_there
  left_out l h = rw (e, last_take s n c l, h) (none l)

  pub put_in : n < length s → last_is n s c ≡ false → Appended s (set s n c) n (n + 1) (unless_there (take n s) more)
  unfolding unless_there
  put_in l h = rw (e, last_take s n c (omega arith), h) (one s n c l)

pub nothing_there : {s : List ℕ} {n : ℕ} {more : List ℕ} → more ≡ [] → n ≤ length s → Appended s s n n (unless_there (take n s) more)
unfolding unless_there
nothing_there e l = rw e (none l)

pub there_le : (xs ys : List ℕ) → length (unless_there xs ys) ≤ length ys
unfolding unless_there
there_le xs [] = omega arith
there_le xs (c ∷ ys) = go (last_is (length xs) xs c)
  where
    go : (b : Bool) → length (cond b ys (c ∷ ys)) ≤ suc (length ys)
    go true = omega arith
    go false = omega arith

-- it changes nothing in which cells there are
pub there_same : (f : ℕ → Bool) (xs ys : List ℕ) → any f (xs ++ unless_there xs ys) ≡ any f (xs ++ ys)
unfolding unless_there
there_same f xs [] = refl
there_same f xs (c ∷ ys) = go (last_is (length xs) xs c) refl
  where
    go : (b : Bool) → last_is (length xs) xs c ≡ b → any f (xs ++ cond b ys (c ∷ ys)) ≡ any f (xs ++ (c ∷ ys))
    go false h = refl
    go true h =
        any_append f xs ys
        ∙ or_last (any f xs) (f c) (any f ys) (passes f c xs (last_elem xs c h))
        ∙ sym (any_append f xs (c ∷ ys))
