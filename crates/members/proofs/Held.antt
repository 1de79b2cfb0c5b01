-- Laws of points held with member lengths: of the points of two slices, of cutting them into members, and of what refusal 3 lets through.
-- Assumes nothing.
use Rattle.std.specs.Prelude.{Ok}
use mathlib.Core.Path.{◌≡◌, refl, sym, ap, ◌∙◌}
use mathlib.Core.Bool.{true}
use mathlib.Core.List.{List, [], ◌∷◌, ◌++◌, map, flatten, zip_with}
use Prim.Native.Nat.{ℕ, zero, suc, ◌^◌, ◌≤◌, ◌<◌}
use native.Mathlib.Omega.{arith}
use lib.Dec.{leb, eqb}
use lib.ListN.{length, take, drop, get_or, length-append, length-drop, take-append-drop}
use lib.Seq.{length-take-le, take-append_seam, drop-append_seam}
use borrow.Author.Tests.{le-leb, leb-true, eq-eqb, eqb-true}
use Rattle.refusals.specs.Refusals.{unless}
use Rattle.refusals.proofs.Checks.{unless_fine}
use Rattle.grid.proofs.Bools.{and_says}
use Rattle.wkb.specs.Bytes.{Point, Patterns}
use Rattle.wkb.proofs.Chains.{Some}
use Rattle.members.specs.Held.{points_of, chains_of, is_length, all_lengths, sum_of, held_check}

-- ---- the points of two slices

pub length_points_of : (xs ys : List ℕ) → length ys ≡ length xs → length (points_of xs ys) ≡ length xs
unfolding points_of zip_with
length_points_of [] ys e = refl
length_points_of (x ∷ xs) [] e = absurd (omega arith)
length_points_of (x ∷ xs) (y ∷ ys) e = ap suc (length_points_of xs ys (omega arith))

pub map_x : (xs ys : List ℕ) → length ys ≡ length xs → map (λ (p : Point). p.x) (points_of xs ys) ≡ xs
unfolding points_of zip_with
map_x [] ys e = refl
map_x (x ∷ xs) [] e = absurd (omega arith)
map_x (x ∷ xs) (y ∷ ys) e = ap (λ (l : List ℕ). x ∷ l) (map_x xs ys (omega arith))

pub map_y : (xs ys : List ℕ) → length ys ≡ length xs → map (λ (p : Point). p.y) (points_of xs ys) ≡ ys
unfolding points_of zip_with
map_y [] [] e = refl
map_y [] (y ∷ ys) e = absurd (omega arith)
map_y (x ∷ xs) [] e = absurd (omega arith)
map_y (x ∷ xs) (y ∷ ys) e = ap (λ (l : List ℕ). y ∷ l) (map_y xs ys (omega arith))

-- and back
pub points_back : (ps : List Point) → points_of (map (λ (p : Point). p.x) ps) (map (λ (p : Point). p.y) ps) ≡ ps
unfolding points_of zip_with
points_back [] = refl
points_back (p ∷ ps) = ap (λ (l : List Point). p ∷ l) (points_back ps)

abbrev pub origin : Point
origin = record { x = 0; y = 0 }

pub point_at : (xs ys : List ℕ) (k : ℕ) → length ys ≡ length xs → k < length xs → get_or (points_of xs ys) k origin ≡ record { x = get_or xs k 0; y = get_or ys k 0 }
unfolding points_of zip_with
point_at [] ys k e h = absurd (omega arith)
point_at (x ∷ xs) [] k e h = absurd (omega arith)
point_at (x ∷ xs) (y ∷ ys) zero e h = refl
point_at (x ∷ xs) (y ∷ ys) (suc k) e h = point_at xs ys k (omega arith) (omega arith)

-- slices of 64 bits hold bit patterns
pub patterns_of : (xs ys : List ℕ) → ((i : ℕ) → get_or xs i 0 < 2 ^ 64) → ((i : ℕ) → get_or ys i 0 < 2 ^ 64) → Patterns (points_of xs ys)
unfolding points_of zip_with
patterns_of [] ys f g = tt
patterns_of (x ∷ xs) [] f g = tt
patterns_of (x ∷ xs) (y ∷ ys) f g = (f zero, g zero, patterns_of xs ys (λ i. f (suc i)) (λ i. g (suc i)))

-- ---- members

module _ {A : Type 0} where
  pub length_chains_of : (ns : List ℕ) (ps : List A) → length (chains_of ns ps) ≡ length ns
  unfolding chains_of
  length_chains_of [] ps = refl
  length_chains_of (n ∷ ns) ps = ap suc (length_chains_of ns (drop n ps))

  pub rest : (n : ℕ) (ns : List ℕ) (ps : List A) → sum_of (n ∷ ns) ≡ length ps → (n ≤ length ps) × (sum_of ns ≡ length (drop n ps))
  unfolding sum_of
  rest n ns ps e = (omega arith, rw (length-drop n ps) (omega arith))

  none : (ps : List A) → sum_of [] ≡ length ps → ◌≡◌ {A = List A} [] ps
  unfolding sum_of
  none [] e = refl
  none (p ∷ ps) e = absurd (omega arith)

  -- one after another they are the points, and each has its number of them
  pub flatten_chains : (ns : List ℕ) (ps : List A) → sum_of ns ≡ length ps → flatten (chains_of ns ps) ≡ ps
  unfolding chains_of flatten
  flatten_chains [] ps e = none ps e
  flatten_chains (n ∷ ns) ps e =
      let r = rest n ns ps e in
      ap (λ (l : List A). take n ps ++ l) (flatten_chains ns (drop n ps) r.1) ∙ take-append-drop n ps

  pub lengths_chains : (ns : List ℕ) (ps : List A) → sum_of ns ≡ length ps → map length (chains_of ns ps) ≡ ns
  unfolding chains_of
  lengths_chains [] ps e = refl
  lengths_chains (n ∷ ns) ps e =
      let r = rest n ns ps e in
      rw (length-take-le n ps r.0, lengths_chains ns (drop n ps) r.1)

  -- and back
  pub chains_back : (pss : List (List A)) → chains_of (map length pss) (flatten pss) ≡ pss
  unfolding chains_of flatten
  chains_back [] = refl
  chains_back (ps ∷ pss) =
      let a = take-append_seam ps (flatten pss) in
      let b = drop-append_seam ps (flatten pss) in
      rw (a, b, chains_back pss)

  pub sum_back : (pss : List (List A)) → sum_of (map length pss) ≡ length (flatten pss)
  unfolding sum_of flatten
  sum_back [] = refl
  sum_back (ps ∷ pss) = rw (length-append ps (flatten pss), sum_back pss)

module _ {A B : Type 0} (f : A → B) where
  pub map_take : (n : ℕ) (ps : List A) → map f (take n ps) ≡ take n (map f ps)
  map_take zero ps = refl
  map_take (suc n) [] = refl
  map_take (suc n) (p ∷ ps) = ap (λ (l : List B). f p ∷ l) (map_take n ps)

  pub map_drop : (n : ℕ) (ps : List A) → map f (drop n ps) ≡ drop n (map f ps)
  map_drop zero ps = refl
  map_drop (suc n) [] = refl
  map_drop (suc n) (p ∷ ps) = map_drop n ps

  -- cut, then mapped, is mapped, then cut
  pub chains_map : (ns : List ℕ) (ps : List A) → map (map f) (chains_of ns ps) ≡ chains_of ns (map f ps)
  unfolding chains_of
  chains_map [] ps = refl
  chains_map (n ∷ ns) ps = rw (map_take n ps, chains_map ns (drop n ps), map_drop n ps)

-- ---- lengths that members may have

pub length_is : (n : ℕ) → is_length n ≡ true → (1 ≤ n) × (n ≤ 1024)
unfolding is_length
length_is n h = let a = and_says (leb 1 n) (leb n 1024) h in (leb-true 1 n a.0, leb-true n 1024 a.1)

pub is_length_lem : (n : ℕ) → 1 ≤ n → n ≤ 1024 → is_length n ≡ true
unfolding is_length
is_length_lem n h k = rw (le-leb 1 n h, le-leb n 1024 k)

pub all_first : (n : ℕ) (ns : List ℕ) → all_lengths (n ∷ ns) ≡ true → ((1 ≤ n) × (n ≤ 1024)) × (all_lengths ns ≡ true)
unfolding all_lengths
all_first n ns h = let a = and_says (is_length n) (all_lengths ns) h in (length_is n a.0, a.1)

-- ---- members whose bytes can be written

-- each has 1 to 1,024 points, of bit patterns
abbrev pub Fits : List (List Point) → Type 0
Fits [] = Unit {0}
Fits (ps ∷ pss) = (1 ≤ length ps) × (length ps ≤ 1024) × Patterns ps × Fits pss

pub fits_some : (pss : List (List Point)) → Fits pss → Some pss
fits_some [] f = tt
fits_some (ps ∷ pss) f = (f.0, fits_some pss f.3)

patterns_take : (n : ℕ) (ps : List Point) → Patterns ps → Patterns (take n ps)
patterns_take zero ps q = tt
patterns_take (suc n) [] q = tt
patterns_take (suc n) (p ∷ ps) q = (q.0, q.1, patterns_take n ps q.2)

patterns_drop : (n : ℕ) (ps : List Point) → Patterns ps → Patterns (drop n ps)
patterns_drop zero ps q = q
patterns_drop (suc n) [] q = tt
patterns_drop (suc n) (p ∷ ps) q = patterns_drop n ps q.2

pub chains_fit : (ns : List ℕ) (ps : List Point) → all_lengths ns ≡ true → sum_of ns ≡ length ps → Patterns ps → Fits (chains_of ns ps)
unfolding chains_of
chains_fit [] ps h e q = tt
chains_fit (n ∷ ns) ps h e q =
    let a = all_first n ns h in
    let r = rest n ns ps e in
    let l = length-take-le n ps r.0 in
    (rw l a.0.0, rw l a.0.1, patterns_take n ps q, chains_fit ns (drop n ps) a.1 r.1 (patterns_drop n ps q))

-- ---- what refusal 3 lets through

pub record Held (m n : ℕ) (ns : List ℕ) : Type 0 where
  pub alike : n ≡ m
  pub most : length ns ≤ 4294967295
  pub each : all_lengths ns ≡ true
  pub sum : sum_of ns ≡ m

pub held_says : (m n : ℕ) (ns : List ℕ) → held_check m n ns ≡ (Ok tt) → Held m n ns
unfolding held_check
held_says m n ns h =
    let a = and_says (eqb m n) _ (unless_fine _ _ _ h) in
    let b = and_says (leb (length ns) 4294967295) _ a.1 in
    let c = and_says (all_lengths ns) (eqb (sum_of ns) m) b.1 in
    record {
      alike = sym (eqb-true m n a.0);
      most = leb-true (length ns) 4294967295 b.0;
      each = c.0;
      sum = eqb-true (sum_of ns) m c.1;
    }

pub held_fine : {m n : ℕ} {ns : List ℕ} → Held m n ns → held_check m n ns ≡ Ok tt
unfolding held_check unless
held_fine {m} {n} {ns} h =
    rw (eq-eqb m n (sym h.alike), le-leb (length ns) 4294967295 h.most, h.each, eq-eqb (sum_of ns) m h.sum)
