-- A TEST COUNTS AS THE FIRST exactly if no test before it is of the same two lines: of any tables that fit. Assumes nothing.
use mathlib.Core.Path.{◌≡◌, refl, sym, ap, ◌∙◌}
use mathlib.Core.Bool.{Bool, true, false, not, ◌&&◌, ◌||◌}
use mathlib.Core.List.{List, [], ◌∷◌, ◌++◌, append_assoc, append-nil}
use Prim.Native.Nat.{ℕ, zero, suc, ◌+◌, ◌≤◌, ◌<◌}
use native.Mathlib.Nat.{add-zero, zero-add}
use native.Mathlib.Omega.{arith}
use borrow.Author.Tests.{eq-eqb, ne_eqb}
use lib.Dec.{eqb}
use lib.ListN.{take, get_or}
use Rattle.slices.specs.Lists.{elem}
use Rattle.tables.specs.Tables.{Tables, cells, list_of}
use Rattle.tables.specs.Fit.{TablesFit}
use Rattle.seek.specs.declared.Place.{Place}
use Rattle.seek.specs.declared.Place.TheVariants.{Global}
use Rattle.seek.specs.Tests.{Pair, with_each, pairs, place_of, cell_tests, others, global_tests, tests_of}
use Rattle.seek.proofs.Clauses.{with_nil, with_cons, pairs_nil, pairs_cons, cells_zero, cells_suc, globals_zero, globals_suc}
use Rattle.tables.proofs.Parts.{fit_globals}
use Rattle.seek.proofs.Standing.{has_columns}
use Rattle.visit.specs.Words.{one_where, sum_below, count_below, test_of_both, times, Different}
use Rattle.visit.proofs.Number.{sum_zero, sum_suc}
use Rattle.visit.proofs.Often.{one_true, one_false, times_cons, times_append, cell_times, cells_shared, globals_all}
use Rattle.visit.proofs.Different.{tests_different}
use Rattle.by_line.specs.First.{some_below, met_below}
use Rattle.first_tests.specs.Firsts.{through, is_first}
use Rattle.first_tests.proofs.Lists.{cells_more}
use Rattle.first_tests.proofs.Whole.{through_cell}
use Rattle.once_laws.specs.Words.{FirstsAfter}

-- ---- some cell before, and how many

one_most : (b : Bool) → one_where b ≤ 1
unfolding one_where
one_most true = omega arith
one_most false = omega arith

some_count : (m : ℕ) (f : ℕ → Bool) → not (some_below m f) ≡ eqb (count_below m f) 0
unfolding some_below count_below
some_count zero f = rw sum_zero
some_count (suc m) f = go (f m) refl (some_below m f) (some_count m f)
  where
    go : (x : Bool) → f m ≡ x → (s : Bool) → not s ≡ eqb (count_below m f) 0 → not (s || f m) ≡ eqb (count_below (suc m) f) 0
    go true e true h = rw (sum_suc m (λ c. one_where (f c)), e, one_true) (sym (ne_eqb (sum_below m (λ c. one_where (f c)) + 1) 0 (λ q. omega arith)))
    go true e false h = rw (sum_suc m (λ c. one_where (f c)), e, one_true) (sym (ne_eqb (sum_below m (λ c. one_where (f c)) + 1) 0 (λ q. omega arith)))
    go false e true h = rw (sum_suc m (λ c. one_where (f c)), e, one_false, add-zero) h
    go false e false h = rw (sum_suc m (λ c. one_where (f c)), e, one_false, add-zero) h

-- ---- a block: tests before which c cells are behind

abbrev At : Tables → ℕ → List Pair → Type 0
At t c [] = Unit {0}
At t c (p ∷ ps) = (through t p.place ≡ c) × At t c ps

at_append : (t : Tables) (c : ℕ) (ps qs : List Pair) → At t c ps → At t c qs → At t c (ps ++ qs)
at_append t c [] qs a b = b
at_append t c (p ∷ ps) qs a b = (a.0, at_append t c ps qs a.1 b)

at_with : (t : Tables) (c : ℕ) (pl : Place) → through t pl ≡ c → (a : ℕ) (bs : List ℕ) → At t c (with_each pl a bs)
at_with t c pl e a [] = rw with_nil tt
at_with t c pl e a (b ∷ bs) = rw with_cons (e, at_with t c pl e a bs)

at_pairs : (t : Tables) (c : ℕ) (pl : Place) → through t pl ≡ c → (xs : List ℕ) → At t c (pairs pl xs)
at_pairs t c pl e [] = rw pairs_nil tt
at_pairs t c pl e (a ∷ bs) = rw pairs_cons (at_append t c (with_each pl a bs) (pairs pl bs) (at_with t c pl e a bs) (at_pairs t c pl e bs))

at_globals : (t : Tables) (n : ℕ) (globals : List ℕ) (left p : ℕ) → At t (cells t) (global_tests n globals left p)
unfolding through
at_globals t n globals zero p = rw globals_zero tt
at_globals t n globals (suc left) p =
    rw globals_suc
    (at_append t (cells t) (with_each (Global p) (get_or globals p 0) (others (take (suc p) globals) n 0)) (global_tests n globals left (suc p))
    (at_with t (cells t) (Global p) refl (get_or globals p 0) (others (take (suc p) globals) n 0)) (at_globals t n globals left (suc p)))

different_left : (n : ℕ) (ps qs : List Pair) → Different n (ps ++ qs) → Different n ps
different_left n [] qs d = tt
different_left n (p ∷ ps) qs d = (d.0, different_left n ps qs d.1)

different_right : (n : ℕ) (ps qs : List Pair) → Different n (ps ++ qs) → Different n qs
different_right n [] qs d = d
different_right n (p ∷ ps) qs d = different_right n ps qs d.1

firsts_append : (t : Tables) (bs ps qs : List Pair) → FirstsAfter t bs ps → FirstsAfter t (bs ++ ps) qs → FirstsAfter t bs (ps ++ qs)
firsts_append t bs [] qs f g = rw append-nil at g
firsts_append t bs (p ∷ ps) qs f g = (f.0, firsts_append t (bs ++ (p ∷ [])) ps qs f.1 (rw append_assoc g))

both_self : (p : Pair) → test_of_both p.first p.second p ≡ true
unfolding test_of_both
both_self p = rw (eq-eqb p.first p.first refl, eq-eqb p.second p.second refl)

-- no two lines are tested twice in a list
AtMostOnce : ℕ → List Pair → Type 0
AtMostOnce n ps = (x y : ℕ) → (x ≡ y → ⊥) → x < n → y < n → times x y ps ≤ 1

module _ (t : Tables) (n c : ℕ) (bs : List Pair)
    (met : (x y : ℕ) → (x ≡ y → ⊥) → x < n → y < n → not (met_below (list_of t) c x y) ≡ eqb (times x y bs) 0) where
  block : (ds ps : List Pair) → At t c ps → Different n ps → AtMostOnce n (ds ++ ps) → FirstsAfter t (bs ++ ds) ps
  unfolding AtMostOnce is_first
  block ds [] a d o = tt
  block ds (p ∷ ps) a d o =
      let u : times p.first p.second (p ∷ ps) ≡ 1 + times p.first p.second ps = times_cons p.first p.second p ps ∙ rw (both_self p, one_true) in
      let w = o p.first p.second d.0.2 d.0.0 d.0.1 in
      let z : times p.first p.second ds ≡ 0 = omega (arith, times_append p.first p.second ds (p ∷ ps)) in
      let s : times p.first p.second (bs ++ ds) ≡ times p.first p.second bs = times_append p.first p.second bs ds ∙ omega (arith, z) in (
        rw (a.0, s) (met p.first p.second d.0.2 d.0.0 d.0.1),
        rw append_assoc (block (ds ++ (p ∷ [])) ps a.1 d.1 (λ x y e l m. rw append_assoc (o x y e l m))),
      )

-- ---- the cells, and the globals

module _ (t : Tables) (f : TablesFit t) where
  abbrev cells_to : ℕ → List Pair
  cells_to c = cell_tests t.cols t.offsets t.items c 0

  -- two lines met before exactly if they were tested
  cells_met : (c : ℕ) → c ≤ cells t → (x y : ℕ) → (x ≡ y → ⊥) → not (met_below (list_of t) c x y) ≡ eqb (times x y (cells_to c)) 0
  unfolding met_below
  cells_met c l x y d =
      some_count c (λ k. elem x (list_of t k) && elem y (list_of t k))
      ∙ ap (λ (m : ℕ). eqb m 0) (sym (cells_shared x y d t.cols t.offsets t.items c (λ k q. (f.lists.lists k (omega arith)).rises)))

  cell_once : (c : ℕ) → c < cells t → AtMostOnce t.lines (pairs (place_of t.cols c) (list_of t c))
  unfolding AtMostOnce
  cell_once c l x y d m k = rw (cell_times x y d (place_of t.cols c) 0 (list_of t c) (f.lists.lists c l).rises) (one_most _)

  cells_firsts : (left c : ℕ) → c + left ≡ cells t → Different t.lines (cell_tests t.cols t.offsets t.items left c)
      → FirstsAfter t (cells_to c) (cell_tests t.cols t.offsets t.items left c)
  cells_firsts zero c e d = rw cells_zero tt
  cells_firsts (suc left) c e d =
      let here : List Pair = pairs (place_of t.cols c) (list_of t c) in
      let rest : List Pair = cell_tests t.cols t.offsets t.items left (suc c) in
      let d₂ : Different t.lines (here ++ rest) = rw cells_suc at d in
      let l : c < cells t = omega arith in
      let z : cells_to c ++ here ≡ cells_to (suc c) = rw zero-add at (cells_more t.cols t.offsets t.items c 0) in
      let b : FirstsAfter t (cells_to c ++ []) here =
      block t t.lines c (cells_to c) (λ x y n p q. cells_met c (omega arith) x y n) [] here
      (at_pairs t c (place_of t.cols c) (through_cell t c (has_columns t.rows t.cols (omega arith))) (list_of t c)) (different_left t.lines here rest d₂) (cell_once c l) in
      rw cells_suc (firsts_append t (cells_to c) here rest (rw append-nil at b) (rw z (cells_firsts left (suc c) (omega arith) (different_right t.lines here rest d₂))))

  globals_once : AtMostOnce t.lines (global_tests t.lines t.globals t.global_count 0)
  unfolding AtMostOnce
  globals_once x y d m k = rw (globals_all t.lines t.global_count t.globals (fit_globals t f) x y d m k) (one_most _)

  -- THE LAW
  pub tests_first : FirstsAfter t [] (tests_of t)
  unfolding tests_of
  tests_first =
      let d : Different t.lines (cells_to (cells t) ++ global_tests t.lines t.globals t.global_count 0) = tests_different t f in
      let gs : List Pair = global_tests t.lines t.globals t.global_count 0 in
      let c : FirstsAfter t [] (cells_to (cells t)) = rw cells_zero at (cells_firsts (cells t) 0 (zero-add (cells t)) (different_left t.lines (cells_to (cells t)) gs d)) in
      let b : FirstsAfter t (cells_to (cells t) ++ []) gs =
      block t t.lines (cells t) (cells_to (cells t)) (λ x y n p q. cells_met (cells t) (omega arith) x y n) [] gs
      (at_globals t t.lines t.globals t.global_count 0) (different_right t.lines (cells_to (cells t)) gs d) globals_once in
      firsts_append t [] (cells_to (cells t)) gs c (rw append-nil at b)
