-- The number of a place says where the two lines of a test are listed: of every test, and so of every pair that a batch hands out. Assumes nothing.
use mathlib.Core.Path.{◌≡◌, refl, ap, ◌∙◌}
use mathlib.Core.Bool.{Bool, true, false, ◌||◌, or-true}
use mathlib.Core.List.{List, [], ◌∷◌, ◌++◌}
use Prim.Native.Nat.{ℕ, zero, suc, ◌+◌, ◌-◌, ◌<◌}
use native.Mathlib.Omega.{arith}
use borrow.Author.Tests.{eq-eqb}
use lib.Dec.{eqb}
use lib.ListN.{get_or, take, drop}
use Rattle.slices.specs.Lists.{elem}
use Rattle.grid.specs.Domain.{Lines}
use Rattle.tables.specs.Tables.{Tables, cells, list_of}
use Rattle.seek.specs.declared.Place.{Place}
use Rattle.seek.specs.declared.Place.TheVariants.{Global}
use Rattle.seek.specs.Tests.{Pair, pair, with_each, pairs, place_of, cell_tests, others, global_tests, tests_of}
use Rattle.visit.specs.Places.{number_in, number_of}
use Rattle.visit.specs.Overlap.{overlap}
use Rattle.visit.specs.Batches.{made, overlapping, handed}
use Rattle.seek.proofs.Clauses.{with_nil, with_cons, pairs_nil, pairs_cons, cells_zero, cells_suc, globals_zero, globals_suc}
use Rattle.visit.proofs.Clauses.{made_none, made_full, made_hit, made_miss, over_nil, over_hit, over_miss}
use Rattle.visit.proofs.Placing.{number_of_cell}
use Rattle.visit.specs.Words.{PlaceTells, AllListed}

module _ (t : Tables) where
  append : (ps qs : List Pair) → AllListed t ps → AllListed t qs → AllListed t (ps ++ qs)
  append [] qs h k = k
  append (p ∷ ps) qs h k = (h.0, append ps qs h.1 k)

  -- ---- a cell c at `pl`

  module _ (pl : Place) (c : ℕ) (l : c < cells t) (e : number_of t pl ≡ c) where
    one : (a b : ℕ) → elem a (list_of t c) ≡ true → elem b (list_of t c) ≡ true → PlaceTells t (pair pl a b)
    one a b h k = record { in_cell = λ _. (rw e h, rw e k); of_global = λ m. absurd (omega (arith, e)) }

    row : (a : ℕ) → elem a (list_of t c) ≡ true → (ys : List ℕ) → ((y : ℕ) → elem y ys ≡ true → elem y (list_of t c) ≡ true) → AllListed t (with_each pl a ys)
    row a h [] f = rw with_nil tt
    row a h (y ∷ ys) f =
        rw with_cons (one a y h (f y (rw (eq-eqb y y refl))), row a h ys (λ z i. f z (ap (λ (b : Bool). eqb z y || b) i ∙ or-true (eqb z y))))

    cell : (xs : List ℕ) → ((y : ℕ) → elem y xs ≡ true → elem y (list_of t c) ≡ true) → AllListed t (pairs pl xs)
    cell [] f = rw pairs_nil tt
    cell (x ∷ xs) f =
        let later : (y : ℕ) → elem y xs ≡ true → elem y (list_of t c) ≡ true = λ y i. f y (ap (λ (b : Bool). eqb y x || b) i ∙ or-true (eqb y x)) in
        rw pairs_cons (append (with_each pl x xs) (pairs pl xs) (row x (f x (rw (eq-eqb x x refl))) xs later) (cell xs later))

  all_cells : (left c : ℕ) → c + left ≡ cells t → AllListed t (cell_tests t.cols t.offsets t.items left c)
  all_cells zero c e = rw cells_zero tt
  all_cells (suc left) c e =
      rw cells_suc
      (append (pairs (place_of t.cols c) (list_of t c)) (cell_tests t.cols t.offsets t.items left (suc c))
      (cell (place_of t.cols c) c (omega arith) (number_of_cell t.cols (cells t) c) (list_of t c) (λ y i. i)) (all_cells left (suc c) (omega arith)))

  -- ---- the globals

  of_one : (p b : ℕ) → PlaceTells t (pair (Global p) (get_or t.globals p 0) b)
  unfolding number_in
  of_one p b =
      let z : (cells t + p) - cells t ≡ p = omega arith in
      record { in_cell = λ l. absurd (omega arith); of_global = λ _. rw z }

  global_row : (p : ℕ) (ys : List ℕ) → AllListed t (with_each (Global p) (get_or t.globals p 0) ys)
  global_row p [] = rw with_nil tt
  global_row p (y ∷ ys) = rw with_cons (of_one p y, global_row p ys)

  all_globals : (left p : ℕ) → AllListed t (global_tests t.lines t.globals left p)
  all_globals zero p = rw globals_zero tt
  all_globals (suc left) p =
      rw globals_suc
      (append (with_each (Global p) (get_or t.globals p 0) (others (take (suc p) t.globals) t.lines 0)) (global_tests t.lines t.globals left (suc p))
      (global_row p (others (take (suc p) t.globals) t.lines 0)) (all_globals left (suc p)))

  pub tests_listed : AllListed t (tests_of t)
  unfolding tests_of
  tests_listed =
      append (cell_tests t.cols t.offsets t.items (cells t) 0) (global_tests t.lines t.globals t.global_count 0)
      (all_cells (cells t) 0 (omega arith)) (all_globals t.global_count 0)

  -- ---- what a batch hands out of them

  after : (b : ℕ) (ps : List Pair) → AllListed t ps → AllListed t (drop b ps)
  after zero ps h = h
  after (suc b) [] h = h
  after (suc b) (p ∷ ps) h = after b ps h.1

  module _ (ls : Lines) where
    of_made : (ps : List Pair) (room : ℕ) → AllListed t ps → AllListed t (made ls ps room)
    of_made [] room h = rw made_none tt
    of_made (p ∷ ps) zero h = rw made_full tt
    of_made (p ∷ ps) (suc room) h = go (overlap ls p.first p.second) refl (of_made ps room h.1) (of_made ps (suc room) h.1)
      where
        go : (b : Bool) → overlap ls p.first p.second ≡ b → AllListed t (made ls ps room) → AllListed t (made ls ps (suc room)) → AllListed t (made ls (p ∷ ps) (suc room))
        go true e hit miss = rw (made_hit ls p ps room e) (h.0, hit)
        go false e hit miss = rw (made_miss ls p ps room e) (h.0, miss)

    of_overlapping : (ps : List Pair) → AllListed t ps → AllListed t (overlapping ls ps)
    of_overlapping [] h = rw over_nil tt
    of_overlapping (p ∷ ps) h = go (overlap ls p.first p.second) refl (of_overlapping ps h.1)
      where
        go : (b : Bool) → overlap ls p.first p.second ≡ b → AllListed t (overlapping ls ps) → AllListed t (overlapping ls (p ∷ ps))
        go true e rest = rw (over_hit ls p ps e) (h.0, rest)
        go false e rest = rw (over_miss ls p ps e) rest

    -- WHERE EACH PAIR WAS TESTED, of a batch from any bookmark, into outputs of any length
    pub handed_listed : (b room : ℕ) → AllListed t (handed ls (drop b (tests_of t)) room)
    handed_listed b room = of_overlapping (made ls (drop b (tests_of t)) room) (of_made (drop b (tests_of t)) room (after b (tests_of t) tests_listed))
