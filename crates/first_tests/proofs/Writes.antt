-- What tests leave in the outputs: of no test, of one, and of some after others. Assumes nothing.
use mathlib.Core.Path.{◌≡◌, refl, sym, ap, ◌∙◌}
use mathlib.Core.Bool.{Bool, true, false}
use mathlib.Core.List.{List, [], ◌∷◌, ◌++◌, map}
use Prim.Native.Nat.{ℕ, suc, ◌+◌, ◌≤◌, ◌<◌}
use native.Mathlib.Nat.{add-zero}
use native.Mathlib.Decide.{dec_lt}
use native.Mathlib.Omega.{arith}
use lib.ListN.{length, take, set, length-append, length-set, length-map}
use lib.Seq.{take_all, take-set-le, take-suc-set}
use Rattle.seek.specs.Tests.{Pair}
use Rattle.visit.specs.Batches.{keep_if}
use Rattle.first_tests.specs.Firsts.{kept_by}
use Rattle.first_tests.specs.InsideScan.{put_at, SameFirst, HandedOut}

-- ---- which tests pass

kept_append : (keep : Pair → Bool) (ps qs : List Pair) → kept_by keep (ps ++ qs) ≡ kept_by keep ps ++ kept_by keep qs
unfolding kept_by keep_if
kept_append keep [] qs = refl
kept_append keep (p ∷ ps) qs = go (keep p) (kept_append keep ps qs)
  where
    go : (b : Bool) → kept_by keep (ps ++ qs) ≡ kept_by keep ps ++ kept_by keep qs → keep_if b p (kept_by keep (ps ++ qs)) ≡ keep_if b p (kept_by keep ps) ++ kept_by keep qs
    go true ih = ap (λ (l : List Pair). p ∷ l) ih
    go false ih = ih

pub kept_few : (keep : Pair → Bool) (ps : List Pair) → length (kept_by keep ps) ≤ length ps
unfolding kept_by keep_if
kept_few keep [] = omega arith
kept_few keep (p ∷ ps) = go (keep p) (kept_few keep ps)
  where
    go : (b : Bool) → length (kept_by keep ps) ≤ length ps → length (keep_if b p (kept_by keep ps)) ≤ suc (length ps)
    go true ih = omega arith
    go false ih = omega arith

kept_yes : (keep : Pair → Bool) (p : Pair) → keep p ≡ true → kept_by keep (p ∷ []) ≡ p ∷ []
unfolding kept_by keep_if
kept_yes keep p e = rw e

kept_no : (keep : Pair → Bool) (p : Pair) → keep p ≡ false → kept_by keep (p ∷ []) ≡ []
unfolding kept_by keep_if
kept_no keep p e = rw e

-- ---- what is written

pub length_put : (s : List ℕ) (at : ℕ) (xs : List ℕ) → length (put_at s at xs) ≡ length s
unfolding put_at
length_put s at [] = refl
length_put s at (x ∷ xs) = length_put (set s at x) (suc at) xs ∙ length-set s at x

put_append : (s : List ℕ) (at : ℕ) (xs ys : List ℕ) → put_at s at (xs ++ ys) ≡ put_at (put_at s at xs) (at + length xs) ys
unfolding put_at
put_append s at [] ys = rw (add-zero at)
put_append s at (x ∷ xs) ys = let e : at + suc (length xs) ≡ suc at + length xs = omega arith in rw e (put_append (set s at x) (suc at) xs ys)

map_append : (f : Pair → ℕ) (ps qs : List Pair) → map f (ps ++ qs) ≡ map f ps ++ map f qs
map_append f [] qs = refl
map_append f (p ∷ ps) qs = ap (λ (l : List ℕ). f p ∷ l) (map_append f ps qs)

-- ---- slices that are the same up to an entry

pub alike_same : (n : ℕ) (s : List ℕ) → SameFirst n s s
alike_same n s = record { long = refl; same = refl }

pub alike_trans : {n : ℕ} {s t u : List ℕ} → SameFirst n s t → SameFirst n t u → SameFirst n s u
alike_trans a b = record { long = a.long ∙ b.long; same = a.same ∙ b.same }

-- what is written at the entry where they begin to differ is the same in both
alike_set : {n : ℕ} {s t : List ℕ} (x : ℕ) → SameFirst n s t → SameFirst (suc n) (set s n x) (set t n x)
alike_set {n} {s} {t} x a =
    record { long = length-set s n x ∙ a.long ∙ sym (length-set t n x); same = go (dec_lt n (length s)) }
  where
    go : Dec (n < length s) → take (suc n) (set s n x) ≡ take (suc n) (set t n x)
    go (yes l) = take-suc-set s n x l ∙ ap (λ (l : List ℕ). l ++ (x ∷ [])) a.same ∙ sym (take-suc-set t n x (omega (arith, l, a.long)))
    go (no l) =
        let p : length s ≤ n = omega (arith, l) in
        let q : length t ≤ n = omega (arith, l, a.long) in
        let e : s ≡ t = sym (take_all n s p) ∙ a.same ∙ take_all n t q in
        rw e

pub alike_put : {n : ℕ} {s t : List ℕ} (xs : List ℕ) → SameFirst n s t → SameFirst (n + length xs) (put_at s n xs) (put_at t n xs)
unfolding put_at
alike_put {n} [] a = rw (add-zero n) a
alike_put {n} {s} {t} (x ∷ xs) a = let e : n + suc (length xs) ≡ suc n + length xs = omega arith in rw e (alike_put xs (alike_set x a))

-- what is written at it or beyond leaves the entries before as they are
alike_over : {n : ℕ} {s t : List ℕ} (x : ℕ) → SameFirst n s t → SameFirst n (set s n x) t
alike_over {n} {s} x a = record { long = length-set s n x ∙ a.long; same = take-set-le n s n x (omega arith) ∙ a.same }

-- ---- the outputs

-- an output after some tests, and after others
both : (keep : Pair → Bool) (f : Pair → ℕ) (ps qs : List Pair) (s : List ℕ) (hits : ℕ) {s' s'' : List ℕ} {hits' hits'' : ℕ} → hits' ≡ hits + length (kept_by keep ps) → hits'' ≡ hits' + length (kept_by keep qs)
    → SameFirst hits' s' (put_at s hits (map f (kept_by keep ps))) → SameFirst hits'' s'' (put_at s' hits' (map f (kept_by keep qs)))
    → SameFirst hits'' s'' (put_at s hits (map f (kept_by keep (ps ++ qs))))
both keep f ps qs s hits {s'} {s''} {hits'} {hits''} e e' a b =
    let k : kept_by keep (ps ++ qs) ≡ kept_by keep ps ++ kept_by keep qs = kept_append keep ps qs in
    let n : hits' + length (map f (kept_by keep qs)) ≡ hits'' = rw length-map (sym e') in
    let c : SameFirst hits'' (put_at s' hits' (map f (kept_by keep qs))) (put_at (put_at s hits (map f (kept_by keep ps))) hits' (map f (kept_by keep qs))) =
    rw n at (alike_put (map f (kept_by keep qs)) a) in
    let w : put_at (put_at s hits (map f (kept_by keep ps))) hits' (map f (kept_by keep qs)) ≡ put_at s hits (map f (kept_by keep (ps ++ qs))) =
    rw (k, map_append f (kept_by keep ps) (kept_by keep qs), put_append s hits, length-map, e) in
    alike_trans b (rw w at c)

module _ {keep : Pair → Bool} where
  pub grown_none : {fs ss : List ℕ} {hits : ℕ} → HandedOut keep [] fs ss hits fs ss hits
  unfolding kept_by put_at
  grown_none {fs} {ss} {hits = hits} = record { hits_are = sym (add-zero hits); first_is = alike_same hits fs; second_is = alike_same hits ss }

  pub grown_then : {ps qs : List Pair} {fs ss : List ℕ} {hits : ℕ} {fs' ss' : List ℕ} {hits' : ℕ} {fs'' ss'' : List ℕ} {hits'' : ℕ}
      → HandedOut keep ps fs ss hits fs' ss' hits' → HandedOut keep qs fs' ss' hits' fs'' ss'' hits'' → HandedOut keep (ps ++ qs) fs ss hits fs'' ss'' hits''
  grown_then {ps} {qs} {fs} {ss} {hits} {fs'} {ss'} {hits'} g h =
      let e : kept_by keep (ps ++ qs) ≡ kept_by keep ps ++ kept_by keep qs = kept_append keep ps qs in
      record {
        hits_are = rw (e, length-append) (omega (arith, g.hits_are, h.hits_are));
        first_is = both keep (λ (p : Pair). p.first) ps qs fs hits g.hits_are h.hits_are g.first_is h.first_is;
        second_is = both keep (λ (p : Pair). p.second) ps qs ss hits g.hits_are h.hits_are g.second_is h.second_is;
      }

  -- a pair that is written and not counted
  pub grown_over : {ps : List Pair} {fs ss : List ℕ} {hits : ℕ} {fs' ss' : List ℕ} {hits' : ℕ} (x y : ℕ) → HandedOut keep ps fs ss hits fs' ss' hits'
      → HandedOut keep ps fs ss hits (set fs' hits' x) (set ss' hits' y) hits'
  grown_over x y g = record { hits_are = g.hits_are; first_is = alike_over x g.first_is; second_is = alike_over y g.second_is }

  module _ (p : Pair) {fs ss : List ℕ} {hits : ℕ} where
    pub grown_yes : keep p ≡ true → HandedOut keep (p ∷ []) fs ss hits (set fs hits p.first) (set ss hits p.second) (hits + 1)
    unfolding put_at
    grown_yes e = let k = kept_yes keep p e in record { hits_are = rw k; first_is = rw k (alike_same _ _); second_is = rw k (alike_same _ _) }

    pub grown_no : keep p ≡ false → HandedOut keep (p ∷ []) fs ss hits fs ss hits
    unfolding put_at
    grown_no e = let k = kept_no keep p e in record { hits_are = rw k (sym (add-zero hits)); first_is = rw k (alike_same _ _); second_is = rw k (alike_same _ _) }
