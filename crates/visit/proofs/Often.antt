-- How often a full visit tests two different lines: once for each cell whose list holds both, and once more where one of them is global.
-- It hands them out each time if their boxes overlap. Assumes nothing.
use mathlib.Core.Path.{◌≡◌, refl, sym, ap, subst, ◌∙◌}
use mathlib.Core.Bool.{Bool, true, false, not, ◌&&◌, ◌||◌, and-true, or_comm, true≢false, and-false, or-false, or-true}
use mathlib.Core.List.{List, [], ◌∷◌, ◌++◌}
use Prim.Native.Nat.{ℕ, zero, suc, ◌+◌, ◌≤◌, ◌<◌}
use native.Mathlib.Nat.{add-zero, zero-add}
use native.Mathlib.Decide.{ℕ_discrete}
use native.Mathlib.Omega.{arith}
use lib.ListN.{length, take, get_or}
use lib.Seq.{slice, slice-cons, slice_empty, take-suc, get_or-take, length-take-le}
use lib.Dec.{eqb}
use lib.Ieee.{le}
use borrow.Author.Tests.{eq-eqb, ne_eqb, eqb-true}
use Rattle.slices.specs.Lists.{elem, Rising}
use Rattle.slices.proofs.Members.{any_append}
use Rattle.slices.proofs.Distinct.{rising_low, head_alone}
use Rattle.grid.specs.Domain.{Lines, segment_at}
use Rattle.grid.proofs.Bools.{and_left, and_right}
use Rattle.tables.specs.Tables.{Tables, cells, list_in, list_of, globals_of}
use Rattle.tables.specs.Fit.{TablesFit}
use Rattle.seek.specs.declared.Place.{Place}
use Rattle.seek.specs.declared.Place.TheVariants.{Global}
use Rattle.seek.specs.Tests.{Pair, pair, with_each, pairs, place_of, cell_tests, others, global_tests, tests_of}
use Rattle.grid.specs.Boxes.{box_of, overlaps}
use Rattle.visit.specs.Overlap.{overlap}
use Rattle.visit.specs.Batches.{overlapping}
use Rattle.tables.specs.InsideFit.{GlobalsFit}
use Rattle.seek.proofs.Clauses.{with_nil, with_cons, pairs_nil, pairs_cons, cells_zero, cells_suc, globals_zero, globals_suc, others_zero, others_in, others_out}
use Rattle.visit.proofs.Clauses.{over_nil, over_hit, over_miss}
use Rattle.seek.proofs.OtherLines.{elem_none}
use Rattle.tables.proofs.Parts.{fit_globals}
use Rattle.visit.specs.Words.{sum_below, one_where, count_below, test_of_both, times, Apart}
use Rattle.visit.proofs.Number.{sum_zero, sum_suc, sum_front, sum_same}

-- ---- the definitions' clauses

pub one_true : one_where true ≡ 1
unfolding one_where
one_true = refl

pub one_false : one_where false ≡ 0
unfolding one_where
one_false = refl

pub times_nil : (a b : ℕ) → times a b [] ≡ 0
unfolding times
times_nil a b = refl

pub times_cons : (a b : ℕ) (p : Pair) (ps : List Pair) → times a b (p ∷ ps) ≡ one_where (test_of_both a b p) + times a b ps
unfolding times
times_cons a b p ps = refl

pub times_append : (a b : ℕ) (ps qs : List Pair) → times a b (ps ++ qs) ≡ times a b ps + times a b qs
times_append a b [] qs = rw (times_nil, zero-add)
times_append a b (p ∷ ps) qs = times_cons a b p (ps ++ qs) ∙ omega (arith, times_append a b ps qs, times_cons a b p ps)

-- either of the two may be named first
both_swap : (a b : ℕ) (p : Pair) → test_of_both a b p ≡ test_of_both b a p
unfolding test_of_both
both_swap a b p = or_comm (eqb p.first a && eqb p.second b) (eqb p.first b && eqb p.second a)

pub times_swap : (a b : ℕ) (ps : List Pair) → times a b ps ≡ times b a ps
times_swap a b [] = simp times_nil
times_swap a b (p ∷ ps) = times_cons a b p ps ∙ rw (both_swap a b p, times_swap a b ps) (sym (times_cons b a p ps))

-- ---- a row

module _ (a b : ℕ) (d : a ≡ b → ⊥) (pl : Place) where
  both_first : (y : ℕ) → test_of_both a b (pair pl a y) ≡ eqb y b
  unfolding test_of_both
  both_first y = rw (eq-eqb a a refl, ne_eqb a b d) (or-false (eqb y b))

  both_other : (x y : ℕ) → (x ≡ a → ⊥) → (x ≡ b → ⊥) → test_of_both a b (pair pl x y) ≡ false
  unfolding test_of_both
  both_other x y h k = rw (ne_eqb x a h, ne_eqb x b k)

  -- a row of another line
  row_other : (x : ℕ) (ys : List ℕ) → (x ≡ a → ⊥) → (x ≡ b → ⊥) → times a b (with_each pl x ys) ≡ 0
  row_other x [] h k = rw (with_nil, times_nil)
  row_other x (y ∷ ys) h k = rw (with_cons, times_cons, both_other x y h k, one_false, zero-add) (row_other x ys h k)

  -- a row of one of them, whose lines rise
  elem_above : (v : ℕ) (ys : List ℕ) → Rising (suc v) ys → elem v ys ≡ false
  elem_above v [] r = refl
  elem_above v (y ∷ ys) r =
      let e : eqb v y ≡ false = ne_eqb v y (λ e. omega (arith, r.0)) in
      rw e (elem_above v ys (rising_low (suc v) (suc y) ys (omega (arith, r.0)) r.1))

  row_first : (low : ℕ) (ys : List ℕ) → Rising low ys → times a b (with_each pl a ys) ≡ one_where (elem b ys)
  row_first low [] r = rw (with_nil, times_nil, one_false)
  row_first low (y ∷ ys) r = go (ℕ_discrete y b) (row_first (suc y) ys r.1)
    where
      go : Dec (y ≡ b) → times a b (with_each pl a ys) ≡ one_where (elem b ys) → times a b (with_each pl a (y ∷ ys)) ≡ one_where (elem b (y ∷ ys))
      go (yes e) h =
          let r₁ : Rising (suc b) ys = rw e at r.1 in
          let i : eqb b y ≡ true = eq-eqb b y (sym e) in
          rw (with_cons, times_cons, both_first y, eq-eqb y b e, one_true, h, elem_above b ys r₁, one_false, i, one_true)
      go (no e) h =
          let i : eqb b y ≡ false = ne_eqb b y (λ q. e (sym q)) in
          rw (with_cons, times_cons, both_first y, ne_eqb y b e, one_false, zero-add, h, i)

-- ---- a cell

module _ (a b : ℕ) (d : a ≡ b → ⊥) (pl : Place) where
  swap_d : b ≡ a → ⊥
  swap_d e = d (sym e)

  pub cell_times : (low : ℕ) (xs : List ℕ) → Rising low xs → times a b (pairs pl xs) ≡ one_where (elem a xs && elem b xs)
  cell_times low [] r = rw (pairs_nil, times_nil, one_false)
  cell_times low (x ∷ xs) r = go (ℕ_discrete x a) (ℕ_discrete x b) (cell_times (suc x) xs r.1)
    where
      go : Dec (x ≡ a) → Dec (x ≡ b) → times a b (pairs pl xs) ≡ one_where (elem a xs && elem b xs) → times a b (pairs pl (x ∷ xs)) ≡ one_where (elem a (x ∷ xs) && elem b (x ∷ xs))
      go (yes p) q h =
          let r₁ : Rising (suc a) xs = rw p at r.1 in
          let n : elem a xs ≡ false = elem_above a b d pl a xs r₁ in
          let i : eqb a x ≡ true = eq-eqb a x (sym p) in
          let j : eqb b x ≡ false = ne_eqb b x (λ e. d (sym (e ∙ p))) in
          let w : times a b (with_each pl x xs) ≡ one_where (elem b xs) = ap (λ (v : ℕ). times a b (with_each pl v xs)) p ∙ row_first a b d pl (suc a) xs r₁ in
          rw (pairs_cons, times_append, w, h, n, one_false, add-zero, i, j)
      go (no p) (yes q) h =
          let r₁ : Rising (suc b) xs = rw q at r.1 in
          let n : elem b xs ≡ false = elem_above a b d pl b xs r₁ in
          let i : eqb a x ≡ false = ne_eqb a x (λ e. p (sym e)) in
          let j : eqb b x ≡ true = eq-eqb b x (sym q) in
          let w : times a b (with_each pl x xs) ≡ one_where (elem a xs) = ap (λ (v : ℕ). times a b (with_each pl v xs)) q ∙ times_swap a b (with_each pl b xs) ∙ row_first b a swap_d pl (suc b) xs r₁ in
          rw (pairs_cons, times_append, w, h, n, i, j) (rw (and-false (elem a xs), one_false, add-zero) (ap one_where (sym (and-true (elem a xs)))))
      go (no p) (no q) h =
          let i : eqb a x ≡ false = ne_eqb a x (λ e. p (sym e)) in
          let j : eqb b x ≡ false = ne_eqb b x (λ e. q (sym e)) in
          rw (pairs_cons, times_append, row_other a b d pl x xs p q, zero-add, h, i, j)

-- ---- the cells

module _ (a b : ℕ) (d : a ≡ b → ⊥) (cols : ℕ) (offsets items : List ℕ) where
  together : ℕ → ℕ
  together c = one_where (elem a (list_in offsets items c) && elem b (list_in offsets items c))

  shift : (c x : ℕ) → suc c + x ≡ c + suc x
  shift c x = omega arith

  cells_times : (left c : ℕ) → ((x : ℕ) → c ≤ x → x < c + left → Rising 0 (list_in offsets items x)) → times a b (cell_tests cols offsets items left c) ≡ sum_below left (λ x. together (c + x))
  unfolding together
  cells_times zero c r = rw (cells_zero, times_nil, sum_zero)
  cells_times (suc left) c r =
      let here : times a b (pairs (place_of cols c) (list_in offsets items c)) ≡ together c = cell_times a b d (place_of cols c) 0 (list_in offsets items c) (r c (omega arith) (omega arith)) in
      let later : sum_below left (λ x. together (suc c + x)) ≡ sum_below left (λ x. together (c + suc x)) =
      sum_same left (λ x. together (suc c + x)) (λ x. together (c + suc x)) (λ x. ap together (shift c x)) in
      ap (times a b) (cells_suc cols offsets items left c)
      ∙ times_append a b (pairs (place_of cols c) (list_in offsets items c)) (cell_tests cols offsets items left (suc c))
      ∙ omega (
        arith,
        here,
        cells_times left (suc c) (λ x p q. r x (omega arith) (omega arith)),
        later,
        sum_front left (λ x. together (c + x)),
        ap together (add-zero c),
      )

  -- once for each of the first m cells whose list holds both
  pub cells_shared : (m : ℕ) → ((x : ℕ) → x < m → Rising 0 (list_in offsets items x))
      → times a b (cell_tests cols offsets items m 0) ≡ count_below m (λ c. elem a (list_in offsets items c) && elem b (list_in offsets items c))
  unfolding together count_below
  cells_shared m r =
      cells_times m 0 (λ x p q. r x (omega arith))
      ∙ sum_same m (λ x. together (0 + x)) (λ c. one_where (elem a (list_in offsets items c) && elem b (list_in offsets items c))) (λ x. ap together (zero-add x))

-- ---- the lines but those of a list

others_rising : (xs : List ℕ) (left k : ℕ) → Rising k (others xs left k)
others_rising xs zero k = rw others_zero tt
others_rising xs (suc left) k = go (elem k xs) refl (others_rising xs left (suc k))
  where
    go : (b : Bool) → elem k xs ≡ b → Rising (suc k) (others xs left (suc k)) → Rising k (others xs (suc left) k)
    go true e r = rw (others_in xs left k e) (rising_low k (suc k) (others xs left (suc k)) (omega arith) r)
    go false e r = rw (others_out xs left k e) (omega arith, r)

-- a line is among them exactly if it is not in the list
pub elem_others : (xs : List ℕ) (v left k : ℕ) → k ≤ v → v < k + left → elem v (others xs left k) ≡ not (elem v xs)
elem_others xs v zero k h l = absurd (omega arith)
elem_others xs v (suc left) k h l = go (ℕ_discrete v k) (elem k xs) refl (λ n. elem_others xs v left (suc k) n (omega arith))
  where
    go : Dec (v ≡ k) → (b : Bool) → elem k xs ≡ b → (suc k ≤ v → elem v (others xs left (suc k)) ≡ not (elem v xs)) → elem v (others xs (suc left) k) ≡ not (elem v xs)
    go (yes e) true i later = rw (others_in xs left k i, e, i) (head_alone k (others xs left (suc k)) (others_rising xs left (suc k)))
    go (yes e) false i later =
        let j : eqb v k ≡ true = eq-eqb v k e in
        let n : elem v xs ≡ false = rw e i in
        rw (others_out xs left k i, j, n)
    go (no e) true i later = rw (others_in xs left k i) (later (omega arith))
    go (no e) false i later =
        let j : eqb v k ≡ false = ne_eqb v k e in
        rw (others_out xs left k i, j) (later (omega arith))

-- ---- the globals

-- in the first p of them, and in those from p on
module _ (n m : ℕ) (globals : List ℕ) (t : GlobalsFit n m globals) where
  before : ℕ → ℕ → Bool
  before v p = elem v (take p globals)

  after : ℕ → ℕ → Bool
  after v p = elem v (slice p m globals)

  before_suc : (v p : ℕ) → p < m → before v (suc p) ≡ (before v p || eqb v (get_or globals p 0))
  unfolding before
  before_suc v p h =
      ap (elem v) (take-suc globals p 0 (omega (arith, t.long)))
      ∙ any_append (eqb v) (take p globals) (get_or globals p 0 ∷ [])
      ∙ ap (λ (x : Bool). elem v (take p globals) || x) (or-false (eqb v (get_or globals p 0)))

  after_suc : (v p : ℕ) → p < m → after v p ≡ (eqb v (get_or globals p 0) || after v (suc p))
  unfolding after
  after_suc v p h = ap (elem v) (slice-cons p m globals 0 h t.long)

  -- a global is not among those before it
  not_before : (p : ℕ) → p < m → before (get_or globals p 0) p ≡ false
  unfolding before
  not_before p h =
      let l : p ≤ length globals = omega (arith, t.long) in
      elem_none (get_or globals p 0) (take p globals)
      (λ x i e.
      let i₁ : x < p = omega (arith, length-take-le p globals l) in
      omega (arith, get_or-take p globals x 0 i₁, e, t.rises x p i₁ h))

  module _ (a b : ℕ) (d : a ≡ b → ⊥) (la : a < n) (lb : b < n) where
    -- one of them comes among the globals from p on, and none before
    met : ℕ → Bool
    met p = not (before a p || before b p) && (after a p || after b p)

    row : ℕ → ℕ
    row p = times a b (with_each (Global p) (get_or globals p 0) (others (take (suc p) globals) n 0))

    others_of : (v p : ℕ) → v < n → elem v (others (take (suc p) globals) n 0) ≡ not (before v (suc p))
    unfolding before
    others_of v p h = elem_others (take (suc p) globals) v n 0 (omega arith) (omega arith)

    row_of_a : (p : ℕ) → p < m → get_or globals p 0 ≡ a → row p ≡ one_where (not (before b p))
    unfolding row
    row_of_a p h e =
        let x : before b (suc p) ≡ before b p = before_suc b p h ∙ rw (e, ne_eqb b a (λ q. d (sym q))) (or-false (before b p)) in
        ap (λ (v : ℕ). times a b (with_each (Global p) v (others (take (suc p) globals) n 0))) e
        ∙ row_first a b d (Global p) 0 (others (take (suc p) globals) n 0) (others_rising (take (suc p) globals) n 0)
        ∙ ap one_where (others_of b p lb ∙ ap not x)

    row_of_b : (p : ℕ) → p < m → get_or globals p 0 ≡ b → row p ≡ one_where (not (before a p))
    unfolding row
    row_of_b p h e =
        let x : before a (suc p) ≡ before a p = before_suc a p h ∙ rw (e, ne_eqb a b d) (or-false (before a p)) in
        ap (λ (v : ℕ). times a b (with_each (Global p) v (others (take (suc p) globals) n 0))) e
        ∙ times_swap a b (with_each (Global p) b (others (take (suc p) globals) n 0))
        ∙ row_first b a (λ q. d (sym q)) (Global p) 0 (others (take (suc p) globals) n 0) (others_rising (take (suc p) globals) n 0)
        ∙ ap one_where (others_of a p la ∙ ap not x)

    -- one global
    step : (p : ℕ) → p < m → row p + one_where (met (suc p)) ≡ one_where (met p)
    unfolding met row
    step p h = go (ℕ_discrete (get_or globals p 0) a) (ℕ_discrete (get_or globals p 0) b)
      where
        go : Dec (get_or globals p 0 ≡ a) → Dec (get_or globals p 0 ≡ b) → row p + one_where (met (suc p)) ≡ one_where (met p)
        go (yes e) q =
            let ia : eqb a (get_or globals p 0) ≡ true = eq-eqb a (get_or globals p 0) (sym e) in
            let na : before a p ≡ false = subst (λ (v : ℕ). before v p ≡ false) e (not_before p h) in
            let ba : before a (suc p) ≡ true = before_suc a p h ∙ rw (na, ia) in
            let aa : after a p ≡ true = after_suc a p h ∙ rw ia in
            rw (row_of_a p h e, ba, na, aa) (rw one_false (add-zero (one_where (not (before b p))) ∙ ap one_where (sym (and-true (not (before b p))))))
        go (no o) (yes e) =
            let ib : eqb b (get_or globals p 0) ≡ true = eq-eqb b (get_or globals p 0) (sym e) in
            let nb : before b p ≡ false = subst (λ (v : ℕ). before v p ≡ false) e (not_before p h) in
            let bb : before b (suc p) ≡ true = before_suc b p h ∙ rw (nb, ib) in
            let ab : after b p ≡ true = after_suc b p h ∙ rw ib in
            rw (row_of_b p h e, bb, nb, ab, or-true (before a (suc p)), or-false (before a p), or-true (after a p))
            (rw one_false (add-zero (one_where (not (before a p))) ∙ ap one_where (sym (and-true (not (before a p))))))
        go (no o) (no u) =
            let ia : eqb a (get_or globals p 0) ≡ false = ne_eqb a (get_or globals p 0) (λ q. o (sym q)) in
            let ib : eqb b (get_or globals p 0) ≡ false = ne_eqb b (get_or globals p 0) (λ q. u (sym q)) in
            let ba : before a (suc p) ≡ before a p = before_suc a p h ∙ rw ia (or-false (before a p)) in
            let bb : before b (suc p) ≡ before b p = before_suc b p h ∙ rw ib (or-false (before b p)) in
            let aa : after a p ≡ after a (suc p) = after_suc a p h ∙ rw ia in
            let ab : after b p ≡ after b (suc p) = after_suc b p h ∙ rw ib in
            let z : row p ≡ 0 = row_other a b d (Global p) (get_or globals p 0) (others (take (suc p) globals) n 0) o u in
            rw (z, zero-add, ba, bb, aa, ab)

    none_after : (v : ℕ) → after v m ≡ false
    unfolding after
    none_after v = ap (elem v) (slice_empty m globals)

    globals_times : (left p : ℕ) → p + left ≡ m → times a b (global_tests n globals left p) ≡ one_where (met p)
    unfolding met row
    globals_times zero p e =
        let z : p ≡ m = omega arith in
        rw (globals_zero, times_nil, z, none_after a, none_after b, and-false (not (before a m || before b m)), one_false)
    globals_times (suc left) p e =
        ap (times a b) (globals_suc n globals left p)
        ∙ times_append a b (with_each (Global p) (get_or globals p 0) (others (take (suc p) globals) n 0)) (global_tests n globals left (suc p))
        ∙ ap (λ (x : ℕ). times a b (with_each (Global p) (get_or globals p 0) (others (take (suc p) globals) n 0)) + x) (globals_times left (suc p) (omega arith))
        ∙ step p (omega arith)

    -- all of them: once, if one of the two is global
    pub globals_all : times a b (global_tests n globals m 0) ≡ one_where (elem a (take m globals) || elem b (take m globals))
    unfolding met before after
    globals_all = globals_times m 0 (zero-add m)

-- ---- counts

one_less : (x y : Bool) → one_where (x && y) ≤ one_where x
unfolding one_where
one_less true true = omega arith
one_less true false = omega arith
one_less false y = omega arith

count_less : (m : ℕ) (f g : ℕ → Bool) → count_below m (λ c. f c && g c) ≤ count_below m f
unfolding count_below
count_less zero f g = rw (sum_zero, sum_zero) (omega arith)
count_less (suc m) f g =
    omega (arith, sum_suc m (λ c. one_where (f c && g c)), sum_suc m (λ c. one_where (f c)), one_less (f m) (g m), count_less m f g)

count_none : (m : ℕ) (f : ℕ → Bool) → ((c : ℕ) → c < m → f c ≡ false) → count_below m f ≡ 0
unfolding count_below
count_none zero f h = sum_zero (λ c. one_where (f c))
count_none (suc m) f h =
    omega (arith, sum_suc m (λ c. one_where (f c)), ap one_where (h m (omega arith)), one_false, count_none m f (λ c l. h c (omega arith)))

-- ---- THE LAWS

module _ (t : Tables) (f : TablesFit t) (a b : ℕ) (d : a ≡ b → ⊥) (la : a < t.lines) (lb : b < t.lines) where
  -- the cells whose list holds both
  abbrev pub shared : ℕ
  shared = count_below (cells t) (λ c. elem a (list_of t c) && elem b (list_of t c))

  -- ONCE PER SHARED CELL, and once more where one of the two is global
  pub tests_often : times a b (tests_of t) ≡ shared + one_where (elem a (globals_of t) || elem b (globals_of t))
  unfolding tests_of
  tests_often =
      let c : times a b (cell_tests t.cols t.offsets t.items (cells t) 0) ≡ shared =
      cells_shared a b d t.cols t.offsets t.items (cells t) (λ x q. (f.lists.lists x q).rises) in
      times_append a b (cell_tests t.cols t.offsets t.items (cells t) 0) (global_tests t.lines t.globals t.global_count 0)
      ∙ rw (c, globals_all t.lines t.global_count t.globals (fit_globals t f) a b d la lb)

  -- neither is global: once per shared cell
  pub tests_no_global : elem a (globals_of t) ≡ false → elem b (globals_of t) ≡ false → times a b (tests_of t) ≡ shared
  tests_no_global p q = tests_often ∙ rw (p, q, one_false) (add-zero shared)

  -- one of them is global, in tables whose global lines stand in no cell's list: once
  pub tests_global : Apart t → (elem a (globals_of t) || elem b (globals_of t)) ≡ true → times a b (tests_of t) ≡ 1
  tests_global s p =
      tests_often
      ∙ rw (p, count_none (cells t) (λ c. elem a (list_of t c) && elem b (list_of t c)) (λ c h. none c h (elem a (globals_of t)) refl p), one_true)
    where
      none : (c : ℕ) → c < cells t → (x : Bool) → elem a (globals_of t) ≡ x → (x || elem b (globals_of t)) ≡ true → (elem a (list_of t c) && elem b (list_of t c)) ≡ false
      none c h true e k = rw (s.apart a e c h)
      none c h false e k = rw (s.apart b k c h) (and-false (elem a (list_of t c)))

  -- IN AT MOST AS MANY CELLS as hold one of them
  pub tests_most : (k : ℕ) → elem a (globals_of t) ≡ false → elem b (globals_of t) ≡ false → count_below (cells t) (λ c. elem a (list_of t c)) ≤ k → times a b (tests_of t) ≤ k
  tests_most k p q h = omega (arith, tests_no_global p q, count_less (cells t) (λ c. elem a (list_of t c)) (λ c. elem b (list_of t c)))

-- ---- what is handed out

-- boxes overlap either way round
pub overlap_swap : (ls : Lines) (a b : ℕ) → overlap ls a b ≡ overlap ls b a
unfolding overlap overlaps
overlap_swap ls a b =
    let p = box_of (segment_at ls a) in
    let q = box_of (segment_at ls b) in
    swap (le q.min_x p.max_x) (le p.min_x q.max_x) (le q.min_y p.max_y) (le p.min_y q.max_y)
  where
    swap : (p q r s : Bool) → (p && (q && (r && s))) ≡ (q && (p && (s && r)))
    swap true true true true = refl
    swap true true true false = refl
    swap true true false true = refl
    swap true true false false = refl
    swap true false r s = refl
    swap false true r s = refl
    swap false false r s = refl

-- what asks not which of two lines is the first is at a test of both what it is of the two
module _ {A : Type 0} (f : ℕ → ℕ → A) (swap : (a b : ℕ) → f a b ≡ f b a) (a b : ℕ) where
  pub of_both : (p : Pair) → test_of_both a b p ≡ true → f p.first p.second ≡ f a b
  unfolding test_of_both
  of_both p h = go (eqb p.first a && eqb p.second b) refl h
    where
      go : (x : Bool) → (eqb p.first a && eqb p.second b) ≡ x → (x || (eqb p.first b && eqb p.second a)) ≡ true → f p.first p.second ≡ f a b
      go true e k =
          rw (
            eqb-true p.first a (and_left (eqb p.first a) (eqb p.second b) e),
            eqb-true p.second b (and_right (eqb p.first a) (eqb p.second b) e),
          )
      go false e k =
          rw (
            eqb-true p.first b (and_left (eqb p.first b) (eqb p.second a) k),
            eqb-true p.second a (and_right (eqb p.first b) (eqb p.second a) k),
          )
          (swap b a)

-- HANDED OUT EACH TIME that they are tested if their boxes overlap, and else never
module _ (ls : Lines) (a b : ℕ) where
  test_overlap : (p : Pair) → test_of_both a b p ≡ true → overlap ls p.first p.second ≡ overlap ls a b
  test_overlap = of_both (overlap ls) (overlap_swap ls) a b

  pub handed_often : (ps : List Pair) → overlap ls a b ≡ true → times a b (overlapping ls ps) ≡ times a b ps
  handed_often [] o = rw over_nil
  handed_often (p ∷ ps) o = go (overlap ls p.first p.second) refl (test_of_both a b p) refl (handed_often ps o)
    where
      go : (x : Bool) → overlap ls p.first p.second ≡ x → (y : Bool) → test_of_both a b p ≡ y → times a b (overlapping ls ps) ≡ times a b ps → times a b (overlapping ls (p ∷ ps)) ≡ times a b (p ∷ ps)
      go true e y i h = rw (over_hit ls p ps e, times_cons, times_cons, h)
      go false e true i h = absurd (true≢false (sym (test_overlap p i ∙ o) ∙ e))
      go false e false i h = rw (over_miss ls p ps e, times_cons, i, one_false, zero-add) h

  pub handed_never : (ps : List Pair) → overlap ls a b ≡ false → times a b (overlapping ls ps) ≡ 0
  handed_never [] o = rw (over_nil, times_nil)
  handed_never (p ∷ ps) o = go (overlap ls p.first p.second) refl (test_of_both a b p) refl (handed_never ps o)
    where
      go : (x : Bool) → overlap ls p.first p.second ≡ x → (y : Bool) → test_of_both a b p ≡ y → times a b (overlapping ls ps) ≡ 0 → times a b (overlapping ls (p ∷ ps)) ≡ 0
      go true e true i h = absurd (true≢false (sym e ∙ test_overlap p i ∙ o))
      go true e false i h = rw (over_hit ls p ps e, times_cons, i, one_false, zero-add) h
      go false e y i h = rw (over_miss ls p ps e) h
