-- What is left of a list from a place in it: the first test there, a part of a row taken off, the list done. Assumes nothing.
use Rattle.std.specs.Prelude.{Some, None, Option}
use mathlib.Core.Path.{◌≡◌, refl, sym, ap, subst, ◌∙◌}
use mathlib.Core.Bool.{false, cond}
use mathlib.Core.List.{List, [], ◌∷◌, ◌++◌, append_assoc}
use Prim.Native.Nat.{ℕ, zero, suc, ◌+◌, ◌-◌, ◌*◌, ◌≤◌, ◌<◌}
use native.Mathlib.Nat.{mul-le-mul_right}
use native.Mathlib.Decide.{dec_lt}
use native.Mathlib.Omega.{arith}
use lib.ListN.{length, get_or, take, drop, length-append}
use lib.Seq.{drop-drop}
use lib.Dec.{leb, ltb}
use borrow.Author.Tests.{lt-ltb, le-ltb, lt-leb, le-leb, ne_eqb}
use Rattle.seek.specs.declared.Place.{Place}
use Rattle.seek.specs.Tests.{Pair, with_each, pairs}
use Rattle.seek.specs.Cursors.{rest_in}
use Rattle.seek.proofs.Clauses.{with_append, length_with, pairs_nil, pairs_cons}
use Rattle.seek.proofs.CellRests.{row_ends, list_ends, list_begins}
use Rattle.listed.specs.declared.settle.RowAt.{RowAt}
use Rattle.listed.specs.Lists.{list_from}
use Rattle.listed.specs.Places.{row_with, row_at, is_brief}

-- a later entry
pub later_more : (i j : ℕ) → i < cond (ltb i j) j (suc i)
later_more i j = go (dec_lt i j)
  where
    go : Dec (i < j) → i < cond (ltb i j) j (suc i)
    go (yes h) = rw (lt-ltb i j h) h
    go (no h) = let l : j ≤ i = omega arith in rw (le-ltb i j l) (omega arith)

pub later_is : (i j : ℕ) → i < j → j ≡ cond (ltb i j) j (suc i)
later_is i j h = rw (lt-ltb i j h)

pub later_next : (i j : ℕ) → j ≤ i → i + 1 ≡ cond (ltb i j) j (suc i)
later_next i j h = let e : i + 1 ≡ suc i = omega arith in e ∙ rw (le-ltb i j h)

pub from_later : (pl : Place) (xs : List ℕ) (i j : ℕ) → i < j → list_from pl xs i j ≡ rest_in pl xs i j
unfolding list_from
from_later pl xs i j h = rw (lt-ltb i j h)

pub from_begin : (pl : Place) (xs : List ℕ) → pairs pl xs ≡ list_from pl xs 0 1
from_begin pl xs = list_begins pl xs ∙ sym (from_later pl xs 0 1 (omega arith))

-- ---- the first test at or after a place

-- from a and b on the same is left as from i and j, in every list of `len` entries
pub record RowIs (len i j a b : ℕ) : Type 0 where
  pub later : a < b
  pub inside : b < len
  pub same : (pl : Place) (xs : List ℕ) → length xs ≡ len → list_from pl xs i j ≡ list_from pl xs a b

abbrev RowFound : ℕ → ℕ → ℕ → (Option RowAt) → Type 0
RowFound len i j (Some x) = RowIs len i j x.i x.j
RowFound len i j None = (pl : Place) (xs : List ℕ) → length xs ≡ len → list_from pl xs i j ≡ []

pub row_past : (len i j : ℕ) → len ≤ i → (pl : Place) (xs : List ℕ) → length xs ≡ len → list_from pl xs i j ≡ []
unfolding list_from
row_past len i j h pl xs e =
    list_ends pl xs i (cond (ltb i j) j (suc i)) (omega (arith, later_more i j)) (omega arith)

module _ (len i j at : ℕ) (ea : at ≡ cond (ltb i j) j (suc i)) where
  at_more : i < at
  at_more = rw ea (later_more i j)

  from_at : (pl : Place) (xs : List ℕ) → list_from pl xs i j ≡ rest_in pl xs i at
  unfolding list_from
  from_at pl xs = rw ea

  pub row_here : at < len → RowIs len i j i at
  row_here h =
      record {
        later = at_more;
        inside = h;
        same = λ pl xs e. from_at pl xs ∙ sym (from_later pl xs i at at_more);
      }

  pub row_done : len ≤ at → len - i ≤ 2 → (pl : Place) (xs : List ℕ) → length xs ≡ len → list_from pl xs i j ≡ []
  row_done h k pl xs e = from_at pl xs ∙ list_ends pl xs i at (omega arith) (omega arith)

  pub row_next : len ≤ at → 2 < len - i → RowIs len i j (i + 1) (i + 2)
  row_next h k =
      let e₁ : i + 1 ≡ suc i = omega arith in
      let e₂ : i + 2 ≡ suc (suc i) = omega arith in
      record {
        later = omega arith;
        inside = omega arith;
        same = λ pl xs e. from_at pl xs ∙ row_ends pl xs i at (omega arith) (omega arith) ∙ rw (e₁, e₂) (sym (from_later pl xs (suc i) (suc (suc i)) (omega arith)));
      }

  found_with : RowFound len i j (row_with len i at)
  unfolding row_with
  found_with = go (dec_lt at len) (dec_lt (i + 2) len)
    where
      go : Dec (at < len) → Dec (i + 2 < len) → RowFound len i j (cond (ltb at len) (Some (record { i = i; j = at })) (cond (ltb (i + 2) len) (Some (record { i = (i + 1); j = (i + 2) })) None))
      go (yes h) q = rw (lt-ltb at len h) (row_here h)
      go (no h) (yes k) = rw (le-ltb at len (omega arith), lt-ltb (i + 2) len k) (row_next (omega arith) (omega arith))
      go (no h) (no k) = rw (le-ltb at len (omega arith), le-ltb (i + 2) len (omega arith)) (row_done (omega arith) (omega arith))

  -- as the code finds it
  pub is_here : at < len → Some (record { i = i; j = at }) ≡ row_at len i j
  unfolding row_at row_with
  is_here h = rw (← ea, lt-ltb at len h)

  pub is_done : len ≤ at → len - i ≤ 2 → None ≡ row_at len i j
  unfolding row_at row_with
  is_done h k = rw (← ea, le-ltb at len h, le-ltb (i + 2) len (omega arith))

  pub is_next : len ≤ at → 2 < len - i → Some (record { i = (i + 1); j = (i + 2) }) ≡ row_at len i j
  unfolding row_at row_with
  is_next h k = rw (← ea, le-ltb at len h, lt-ltb (i + 2) len (omega arith))

pub is_past : (len i j : ℕ) → len ≤ i → None ≡ row_at len i j
is_past len i j h = is_done len i j (cond (ltb i j) j (suc i)) refl (omega (arith, later_more i j)) (omega arith)

-- what was found says
module _ (len i j : ℕ) (r : (Option RowAt)) (e : r ≡ row_at len i j) where
  found : RowFound len i j r
  unfolding row_at
  found = rw e (found_with len i j (cond (ltb i j) j (suc i)) refl)

  pub row_at_is : (a b : ℕ) → r ≡ Some (record { i = a; j = b }) → RowIs len i j a b
  row_at_is a b k = subst (RowFound len i j) k found

  pub row_at_past : r ≡ None → (pl : Place) (xs : List ℕ) → length xs ≡ len → list_from pl xs i j ≡ []
  row_at_past k = subst (RowFound len i j) k found

-- a list of fewer than two has no test
pub short_none : (pl : Place) (xs : List ℕ) → length xs ≤ 1 → list_from pl xs 0 1 ≡ []
short_none pl xs h = row_done (length xs) 0 1 1 (later_is 0 1 (omega arith)) h (omega arith) pl xs refl

-- ---- a part of a row

take_and_drop : (n : ℕ) (xs : List ℕ) → take n xs ++ drop n xs ≡ xs
take_and_drop zero xs = refl
take_and_drop (suc n) [] = refl
take_and_drop (suc n) (x ∷ xs) = ap (λ (l : List ℕ). x ∷ l) (take_and_drop n xs)

pub row_part : (pl : Place) (xs : List ℕ) (a b many : ℕ) (later : List Pair) → a < b
    → list_from pl xs a b ++ later ≡ with_each pl (get_or xs a 0) (take many (drop b xs)) ++ (list_from pl xs a (b + many) ++ later)
unfolding rest_in
row_part pl xs a b many later h =
    let e : drop b xs ≡ take many (drop b xs) ++ drop (b + many) xs = sym (take_and_drop many (drop b xs)) ∙ ap (λ (l : List ℕ). take many (drop b xs) ++ l) (drop-drop many b xs) in
    let k : a < b + many = omega arith in
    ap (λ (l : List Pair). l ++ later) (from_later pl xs a b h)
    ∙ ap (λ (l : List Pair). (l ++ pairs pl (drop (suc a) xs)) ++ later) (ap (with_each pl (get_or xs a 0)) e ∙ with_append pl (get_or xs a 0) (take many (drop b xs)) (drop (b + many) xs))
    ∙ ap (λ (l : List Pair). l ++ later) (append_assoc (with_each pl (get_or xs a 0) (take many (drop b xs))) (with_each pl (get_or xs a 0) (drop (b + many) xs)) (pairs pl (drop (suc a) xs)))
    ∙ append_assoc (with_each pl (get_or xs a 0) (take many (drop b xs))) (with_each pl (get_or xs a 0) (drop (b + many) xs) ++ pairs pl (drop (suc a) xs)) later
    ∙ ap (λ (l : List Pair). with_each pl (get_or xs a 0) (take many (drop b xs)) ++ (l ++ later)) (sym (from_later pl xs a (b + many) k))

-- ---- as many tests at any place

pairs_length : (p q : Place) (xs : List ℕ) → length (pairs p xs) ≡ length (pairs q xs)
pairs_length p q [] = rw (pairs_nil, pairs_nil)
pairs_length p q (x ∷ xs) =
    rw (pairs_cons, pairs_cons)
    (length-append (with_each p x xs) (pairs p xs) ∙ ap (λ (n : ℕ). n + length (pairs p xs)) (length_with p x xs ∙ sym (length_with q x xs)) ∙ ap (λ (n : ℕ). length (with_each q x xs) + n) (pairs_length p q xs)
    ∙ sym (length-append (with_each q x xs) (pairs q xs)))

pub from_length : (p q : Place) (xs : List ℕ) (i j : ℕ) → length (list_from p xs i j) ≡ length (list_from q xs i j)
unfolding list_from rest_in
from_length p q xs i j =
    length-append (with_each p (get_or xs i 0) (drop (cond (ltb i j) j (suc i)) xs)) (pairs p (drop (suc i) xs))
    ∙ ap (λ (n : ℕ). n + length (pairs p (drop (suc i) xs))) (length_with p (get_or xs i 0) (drop (cond (ltb i j) j (suc i)) xs) ∙ sym (length_with q (get_or xs i 0) (drop (cond (ltb i j) j (suc i)) xs)))
    ∙ ap (λ (n : ℕ). length (with_each q (get_or xs i 0) (drop (cond (ltb i j) j (suc i)) xs)) + n) (pairs_length p q (drop (suc i) xs))
    ∙ sym (length-append (with_each q (get_or xs i 0) (drop (cond (ltb i j) j (suc i)) xs)) (pairs q (drop (suc i) xs)))

-- ---- a short list

pub square_few : (n : ℕ) → n ≤ 32 → n * n ≤ 1024
square_few n h = let k : n * n ≤ 32 * n = mul-le-mul_right n h in omega (arith, k, h)

module _ (len i j room : ℕ) where
  pub brief_late : (i ≡ 0 → ⊥) → false ≡ is_brief len i j room
  unfolding is_brief
  brief_late h = rw (ne_eqb i 0 h)

  module _ (ei : i ≡ 0) where
    pub brief_later : (j ≡ 1 → ⊥) → false ≡ is_brief len i j room
    unfolding is_brief
    brief_later h = rw (ei, ne_eqb j 1 h)

    module _ (ej : j ≡ 1) where
      pub brief_long : 32 < len → false ≡ is_brief len i j room
      unfolding is_brief
      brief_long h = rw (ei, ej, lt-leb len 32 h)

      pub brief_is : len ≤ 32 → leb (len * len) room ≡ is_brief len i j room
      unfolding is_brief
      brief_is h = rw (ei, ej, le-leb len 32 h)
