-- The clauses of the definitions, as equations, and three small laws on lists. Assumes nothing.
use mathlib.Core.Path.{◌≡◌, refl, ap, ◌∙◌}
use mathlib.Core.Bool.{true, false}
use mathlib.Core.List.{List, [], ◌∷◌, ◌++◌, append_assoc}
use Prim.Native.Nat.{ℕ, zero, suc, ◌+◌, ◌-◌, ◌≤◌, ◌<◌}
use native.Mathlib.Omega.{arith}
use lib.ListN.{length, get_or, take, drop}
use lib.Seq.{drop-append-add}
use Rattle.slices.specs.Lists.{elem}
use Rattle.slices.specs.Slices.{cons_unless}
use Rattle.tables.specs.Tables.{list_in}
use Rattle.seek.specs.declared.Place.{Place}
use Rattle.seek.specs.declared.Place.TheVariants.{Global}
use Rattle.seek.specs.Tests.{Pair, pair, with_each, pairs, place_of, cell_tests, others, global_tests}
use Rattle.seek.specs.Cursors.{rest_in, cells_rest, globals_rest}
use Rattle.seek.specs.Inside.{numbers}

-- one fewer left
pub left_suc : (n c : ℕ) → c < n → n - c ≡ suc (n - suc c)
left_suc n c h = omega arith

-- what is dropped goes past a first part, whose length is known
pub drop_past : (n m : ℕ) (xs ys : List Pair) → length xs ≡ m → m ≤ n → drop n (xs ++ ys) ≡ drop (n - m) ys
drop_past n m xs ys l h =
    let e : n ≡ length xs + (n - m) = omega arith in
    ap (λ (k : ℕ). drop k (xs ++ ys)) e ∙ drop-append-add xs ys (n - m)

pub regroup : (a b d e : List Pair) → ((a ++ b) ++ d) ++ e ≡ a ++ (b ++ (d ++ e))
regroup a b d e = simp append_assoc

-- ---- tests

pub with_nil : (pl : Place) (a : ℕ) → with_each pl a [] ≡ []
unfolding with_each
with_nil pl a = refl

pub with_cons : (pl : Place) (a b : ℕ) (bs : List ℕ) → with_each pl a (b ∷ bs) ≡ pair pl a b ∷ with_each pl a bs
unfolding with_each
with_cons pl a b bs = refl

pub with_append : (pl : Place) (a : ℕ) (xs ys : List ℕ) → with_each pl a (xs ++ ys) ≡ with_each pl a xs ++ with_each pl a ys
with_append pl a [] ys = rw with_nil
with_append pl a (x ∷ xs) ys = rw (with_cons, with_cons) (ap (λ (l : List Pair). pair pl a x ∷ l) (with_append pl a xs ys))

pub length_with : (pl : Place) (a : ℕ) (bs : List ℕ) → length (with_each pl a bs) ≡ length bs
length_with pl a [] = rw with_nil
length_with pl a (b ∷ bs) = rw with_cons (ap suc (length_with pl a bs))

pub drop_with : (pl : Place) (a n : ℕ) (bs : List ℕ) → drop n (with_each pl a bs) ≡ with_each pl a (drop n bs)
drop_with pl a zero bs = refl
drop_with pl a (suc n) [] = rw with_nil
drop_with pl a (suc n) (b ∷ bs) = rw with_cons (drop_with pl a n bs)

pub pairs_nil : (pl : Place) → pairs pl [] ≡ []
unfolding pairs
pairs_nil pl = refl

pub pairs_cons : (pl : Place) (a : ℕ) (bs : List ℕ) → pairs pl (a ∷ bs) ≡ with_each pl a bs ++ pairs pl bs
unfolding pairs
pairs_cons pl a bs = refl

module _ (cols : ℕ) (offsets items : List ℕ) where
  pub cells_zero : (c : ℕ) → cell_tests cols offsets items 0 c ≡ []
  unfolding cell_tests
  cells_zero c = refl

  pub cells_suc : (left c : ℕ) → cell_tests cols offsets items (suc left) c ≡ pairs (place_of cols c) (list_in offsets items c) ++ cell_tests cols offsets items left (suc c)
  unfolding cell_tests
  cells_suc left c = refl

  pub rest_zero : (c i j : ℕ) → cells_rest cols offsets items 0 c i j ≡ []
  unfolding cells_rest
  rest_zero c i j = refl

  pub rest_suc : (left c i j : ℕ) → cells_rest cols offsets items (suc left) c i j ≡ rest_in (place_of cols c) (list_in offsets items c) i j ++ cell_tests cols offsets items left (suc c)
  unfolding cells_rest
  rest_suc left c i j = refl

pub others_zero : (xs : List ℕ) (k : ℕ) → others xs 0 k ≡ []
unfolding others
others_zero xs k = refl

pub others_suc : (xs : List ℕ) (left k : ℕ) → others xs (suc left) k ≡ cons_unless (elem k xs) k (others xs left (suc k))
unfolding others
others_suc xs left k = refl

pub others_in : (xs : List ℕ) (left k : ℕ) → elem k xs ≡ true → others xs (suc left) k ≡ others xs left (suc k)
unfolding others cons_unless
others_in xs left k h = rw h

pub others_out : (xs : List ℕ) (left k : ℕ) → elem k xs ≡ false → others xs (suc left) k ≡ k ∷ others xs left (suc k)
unfolding others cons_unless
others_out xs left k h = rw h

pub numbers_zero : (k : ℕ) → numbers 0 k ≡ []
unfolding numbers
numbers_zero k = refl

pub numbers_suc : (left k : ℕ) → numbers (suc left) k ≡ k ∷ numbers left (suc k)
unfolding numbers
numbers_suc left k = refl

module _ (n : ℕ) (globals : List ℕ) where
  pub globals_zero : (p : ℕ) → global_tests n globals 0 p ≡ []
  unfolding global_tests
  globals_zero p = refl

  pub globals_suc : (left p : ℕ) → global_tests n globals (suc left) p ≡ with_each (Global p) (get_or globals p 0) (others (take (suc p) globals) n 0) ++ global_tests n globals left (suc p)
  unfolding global_tests
  globals_suc left p = refl

  pub grest_zero : (p k : ℕ) → globals_rest n globals 0 p k ≡ []
  unfolding globals_rest
  grest_zero p k = refl

  pub grest_suc : (left p k : ℕ) → globals_rest n globals (suc left) p k ≡ with_each (Global p) (get_or globals p 0) (others (take (suc p) globals) (n - k) k) ++ global_tests n globals left (suc p)
  unfolding globals_rest
  grest_suc left p k = refl
