-- Every test of a full visit is a test of two different lines that there are. Assumes nothing.
use mathlib.Core.Path.{◌≡◌, refl, sym, ap, ◌∙◌}
use mathlib.Core.Bool.{Bool, true, false, not, ◌||◌, true≢false, or-true}
use mathlib.Core.List.{List, [], ◌∷◌, ◌++◌}
use Prim.Native.Nat.{ℕ, zero, suc, ◌+◌, ◌≤◌, ◌<◌}
use native.Mathlib.Omega.{arith}
use borrow.Author.Tests.{eq-eqb}
use lib.Dec.{eqb}
use lib.ListN.{take, get_or}
use lib.Seq.{take-suc}
use Rattle.slices.specs.Lists.{elem, Rising, Below}
use Rattle.slices.proofs.Members.{any_append}
use Rattle.slices.proofs.Distinct.{head_alone}
use Rattle.tables.specs.Tables.{Tables, cells, list_in}
use Rattle.tables.specs.Fit.{TablesFit, Increasing}
use Rattle.seek.specs.declared.Place.{Place}
use Rattle.seek.specs.declared.Place.TheVariants.{Global}
use Rattle.seek.specs.Tests.{Pair, with_each, pairs, place_of, cell_tests, others, global_tests, tests_of}
use Rattle.tables.specs.InsideFit.{GlobalsFit}
use Rattle.seek.proofs.Clauses.{with_nil, with_cons, pairs_nil, pairs_cons, cells_zero, cells_suc, globals_zero, globals_suc}
use Rattle.seek.proofs.PairLines.{others_below}
use Rattle.tables.proofs.Parts.{fit_globals}
use Rattle.visit.specs.Words.{Different}
use Rattle.visit.proofs.Often.{elem_others}

or_neither : (x y : Bool) → (x || y) ≡ false → (x ≡ false) × (y ≡ false)
or_neither true y h = absurd (true≢false h)
or_neither false y h = (refl, h)

module _ (n : ℕ) where
  append : (ps qs : List Pair) → Different n ps → Different n qs → Different n (ps ++ qs)
  append [] qs h k = k
  append (p ∷ ps) qs h k = (h.0, append ps qs h.1 k)

  -- a line with each of a list that it is not in
  row : (pl : Place) (a : ℕ) → a < n → (ys : List ℕ) → Below n ys → elem a ys ≡ false → Different n (with_each pl a ys)
  row pl a h [] b e = rw with_nil tt
  row pl a h (y ∷ ys) b e =
      let u = or_neither (eqb a y) (elem a ys) e in
      rw with_cons ((h, b.0, λ q. true≢false (sym (eq-eqb a y q) ∙ u.0)), row pl a h ys b.1 u.1)

  -- a cell's list
  cell : (pl : Place) (low : ℕ) (xs : List ℕ) → Rising low xs → Below n xs → Different n (pairs pl xs)
  cell pl low [] r b = rw pairs_nil tt
  cell pl low (x ∷ xs) r b =
      rw pairs_cons (append (with_each pl x xs) (pairs pl xs) (row pl x b.0 xs b.1 (head_alone x xs r.1)) (cell pl (suc x) xs r.1 b.1))

  all_cells : (cols : ℕ) (offsets items : List ℕ) (left c : ℕ) → ((x : ℕ) → c ≤ x → x < c + left → Increasing n (list_in offsets items x)) → Different n (cell_tests cols offsets items left c)
  all_cells cols offsets items zero c f = rw cells_zero tt
  all_cells cols offsets items (suc left) c f =
      let here : Increasing n (list_in offsets items c) = f c (omega arith) (omega arith) in
      rw cells_suc (append (pairs (place_of cols c) (list_in offsets items c)) (cell_tests cols offsets items left (suc c)) (cell (place_of cols c) 0 (list_in offsets items c) here.rises here.below) (all_cells cols offsets items left (suc c) (λ x p q. f x (omega arith) (omega arith))))

  -- the globals: none is among the lines that are left for it
  module _ (m : ℕ) (globals : List ℕ) (f : GlobalsFit n m globals) where
    itself : (p : ℕ) → p < m → elem (get_or globals p 0) (take (suc p) globals) ≡ true
    itself p h =
        let v : ℕ = get_or globals p 0 in
        ap (elem v) (take-suc globals p 0 (omega (arith, f.long)))
        ∙ any_append (eqb v) (take p globals) (v ∷ [])
        ∙ rw (eq-eqb v v refl) (or-true (elem v (take p globals)))

    all_globals : (left p : ℕ) → p + left ≡ m → Different n (global_tests n globals left p)
    all_globals zero p e = rw globals_zero tt
    all_globals (suc left) p e =
        let h : p < m = omega arith in
        let v : ℕ = get_or globals p 0 in
        let l : v < n = f.below p h in
        let rest : List ℕ = others (take (suc p) globals) n 0 in
        let none : elem v rest ≡ false = elem_others (take (suc p) globals) v n 0 (omega arith) (omega arith) ∙ ap not (itself p h) in
        rw globals_suc (append (with_each (Global p) v rest) (global_tests n globals left (suc p)) (row (Global p) v l rest (others_below n (take (suc p) globals) n 0 (omega arith)) none) (all_globals left (suc p) (omega arith)))

-- TWO DIFFERENT LINES THAT THERE ARE
pub tests_different : (t : Tables) → TablesFit t → Different t.lines (tests_of t)
unfolding tests_of
tests_different t f =
    append t.lines (cell_tests t.cols t.offsets t.items (cells t) 0) (global_tests t.lines t.globals t.global_count 0)
    (all_cells t.lines t.cols t.offsets t.items (cells t) 0 (λ x p q. f.lists.lists x (omega arith)))
    (all_globals t.lines t.global_count t.globals (fit_globals t f) t.global_count 0 (omega arith))
