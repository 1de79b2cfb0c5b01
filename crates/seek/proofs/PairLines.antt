-- Both lines of a test are lines that there are. Assumes nothing.
use Rattle.std.specs.Prelude.{Ok, Err, Some}
use mathlib.Core.Path.{◌≡◌, refl, ap}
use mathlib.Core.Bool.{Bool, true, false}
use mathlib.Core.List.{List, [], ◌∷◌, ◌++◌}
use Prim.Native.Nat.{ℕ, zero, suc, ◌+◌, ◌<◌}
use native.Mathlib.Omega.{arith}
use lib.ListN.{get_or, take, drop}
use Rattle.slices.specs.Lists.{elem, Below}
use Rattle.refusals.specs.Refusals.{Answer, refused, gives, answer_by}
use Rattle.refusals.proofs.Answers.{then_passed}
use Rattle.grid.specs.declared.Grid.{Grid}
use Rattle.grid.specs.Domain.{Lines, lines_check}
use Rattle.tables.specs.Tables.{Tables, cells, list_in}
use Rattle.tables.specs.Fit.{TablesFit}
use Rattle.seek.specs.declared.Place.{Place}
use Rattle.seek.specs.declared.Place.TheVariants.{Global}
use Rattle.seek.specs.declared.PairAt.{PairAt}
use Rattle.seek.specs.Tests.{Pair, with_each, pairs, place_of, cell_tests, others, global_tests, tests_of}
use Rattle.seek.specs.Bookmarks.{visit_check, bookmark_check, tests_from, first_of, pair_at}
use Rattle.tables.specs.InsideFit.{GlobalsFit}
use Rattle.seek.proofs.Clauses.{with_nil, with_cons, pairs_nil, pairs_cons, cells_zero, cells_suc, globals_zero, globals_suc, others_zero, others_in, others_out}
use Rattle.tables.proofs.Parts.{fit_globals}
use Rattle.seek.proofs.Standing.{stands, lists_below}

-- the lines of each test are below n
abbrev Within : ℕ → List Pair → Type 0
Within n [] = Unit {0}
Within n (p ∷ ps) = ((p.first < n) × (p.second < n)) × Within n ps

pub others_below : (n : ℕ) (xs : List ℕ) (left k : ℕ) → k + left ≡ n → Below n (others xs left k)
others_below n xs zero k e = rw others_zero tt
others_below n xs (suc left) k e = go (elem k xs) refl (others_below n xs left (suc k) (omega arith))
  where
    go : (b : Bool) → elem k xs ≡ b → Below n (others xs left (suc k)) → Below n (others xs (suc left) k)
    go true i h = rw (others_in xs left k i) h
    go false i h = rw (others_out xs left k i) (omega arith, h)

module _ (n : ℕ) where
  append : (ps qs : List Pair) → Within n ps → Within n qs → Within n (ps ++ qs)
  append [] qs h k = k
  append (p ∷ ps) qs h k = (h.0, append ps qs h.1 k)

  later : (b : ℕ) (ps : List Pair) → Within n ps → Within n (drop b ps)
  later zero ps h = h
  later (suc b) [] h = tt
  later (suc b) (p ∷ ps) h = later b ps h.1

  row : (pl : Place) (a : ℕ) (ys : List ℕ) → a < n → Below n ys → Within n (with_each pl a ys)
  row pl a [] h b = rw with_nil tt
  row pl a (y ∷ ys) h b = rw with_cons ((h, b.0), row pl a ys h b.1)

  list : (pl : Place) (xs : List ℕ) → Below n xs → Within n (pairs pl xs)
  list pl [] b = rw pairs_nil tt
  list pl (x ∷ xs) b = rw pairs_cons (append (with_each pl x xs) (pairs pl xs) (row pl x xs b.0 b.1) (list pl xs b.1))

  lists : (cols : ℕ) (offsets items : List ℕ) (left c : ℕ) → ((x : ℕ) → x < c + left → Below n (list_in offsets items x)) → Within n (cell_tests cols offsets items left c)
  lists cols offsets items zero c f = rw cells_zero tt
  lists cols offsets items (suc left) c f =
      rw cells_suc
      (append (pairs (place_of cols c) (list_in offsets items c)) (cell_tests cols offsets items left (suc c)) (list (place_of cols c) (list_in offsets items c) (f c (omega arith)))
      (lists cols offsets items left (suc c) (λ x l. f x (omega arith))))

  globals_lines : (m : ℕ) (globals : List ℕ) → GlobalsFit n m globals → (left p : ℕ) → p + left ≡ m → Within n (global_tests n globals left p)
  globals_lines m globals f zero p e = rw globals_zero tt
  globals_lines m globals f (suc left) p e =
      let rest : List ℕ = others (take (suc p) globals) n 0 in
      rw globals_suc
      (append (with_each (Global p) (get_or globals p 0) rest) (global_tests n globals left (suc p)) (row (Global p) (get_or globals p 0) rest (f.below p (omega arith)) (others_below n (take (suc p) globals) n 0 (omega arith)))
      (globals_lines m globals f left (suc p) (omega arith)))

tests_lines : (t : Tables) → TablesFit t → Within t.lines (tests_of t)
unfolding tests_of
tests_lines t f =
    append t.lines (cell_tests t.cols t.offsets t.items (cells t) 0) (global_tests t.lines t.globals t.global_count 0)
    (lists t.lines t.cols t.offsets t.items (cells t) 0 (λ x l. lists_below t f x (omega arith)))
    (globals_lines t.lines t.global_count t.globals (fit_globals t f) t.global_count 0 (omega arith))

-- where a test stands at a bookmark, the lines passed their checks, and both of the test are among them
pub record LinesOf (ls : Lines) (n x y : ℕ) : Type 0 where
  pub fine : lines_check ls ≡ Ok tt
  pub first : x < n
  pub second : y < n

pub pair_lines : (ls : Lines) (g : Grid) (t : Tables) (b : ℕ) (pl : Place) (x y : ℕ) → Ok (Some (record { place = pl; first = x; second = y })) ≡ pair_at ls g t b → LinesOf ls t.lines x y
unfolding pair_at answer_by first_of tests_from
pair_lines ls g t b pl x y e = go (tests_from ls g t b) refl e
  where
    head : (ps : List Pair) → Within t.lines ps → lines_check ls ≡ (Ok tt) → Ok (Some (record { place = pl; first = x; second = y })) ≡ first_of ps → LinesOf ls t.lines x y
    head [] w f d = absurd (let z : ◌≡◌ {A = ℕ} 0 1 = cc in omega arith)
    head (p ∷ ps) w f d =
        let same : ◌≡◌ {A = PairAt} (record { place = pl; first = x; second = y }) (record { place = p.place; first = p.first; second = p.second }) = cc in
        let ex : x ≡ p.first = ap (λ (r : PairAt). r.first) same in
        let ey : y ≡ p.second = ap (λ (r : PairAt). r.second) same in
        record { fine = f; first = rw ex w.0.0; second = rw ey w.0.1 }

    go : (o : Answer (List Pair)) → tests_from ls g t b ≡ o → Ok (Some (record { place = pl; first = x; second = y })) ≡ answer_by Err first_of o → LinesOf ls t.lines x y
    go (refused r) k d = absurd (let z : ◌≡◌ {A = ℕ} 0 1 = cc in omega arith)
    go (gives ps) k d =
        let u = then_passed (visit_check ls g t) _ k in
        let v = then_passed (bookmark_check t b) _ u.1 in
        let s = stands ls g t u.0 in
        let same : drop b (tests_of t) ≡ ps = given v.1 in
        head ps (rw same at (later t.lines b (tests_of t) (tests_lines t s.tables))) s.lines_fine d
      where
        given : {xs ys : List Pair} → gives xs ≡ gives ys → xs ≡ ys
        given h = cc
