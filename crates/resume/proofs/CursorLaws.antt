-- Where a value stands in a list that rises, and the cursor of the first test that is left. Assumes nothing.
use Rattle.std.specs.Prelude.{Some, None, Option}
use mathlib.Core.Path.{◌≡◌, refl, sym, ap, subst, ◌∙◌}
use mathlib.Core.List.{List, [], ◌∷◌, ◌++◌}
use Prim.Native.Nat.{ℕ, zero, suc, ◌+◌, ◌-◌, ◌*◌, ◌/◌, ◌%◌, ◌≤◌, ◌<◌, ◌^◌}
use native.Mathlib.Nat.{div-add-mod', mul-le-mul_right}
use native.Mathlib.Numerals.{add-one}
use native.Mathlib.Omega.{arith}
use lib.ListN.{length, get_or, take, drop, drop_of_length-le}
use lib.Seq.{drop-cons}
use borrow.Author.Tests.{eq-eqb, ne_eqb}
use Rattle.slices.specs.Lists.{Rising}
use Rattle.slices.proofs.Distinct.{rising_at}
use Rattle.tables.specs.Tables.{Tables, cells}
use Rattle.seek.specs.declared.Place.{Place}
use Rattle.seek.specs.declared.Place.TheVariants.{Cell, Global}
use Rattle.seek.specs.Tests.{Pair, pair, with_each, place_of, others, global_tests}
use Rattle.seek.specs.Cursors.{rest_in}
use Rattle.seek.specs.Inside.{numbers}
use Rattle.visit.specs.Inside.{GlobalAsks, GlobalIs}
use Rattle.seek.proofs.Clauses.{with_cons}
use Rattle.seek.proofs.CellRests.{pair_taken}
use Rattle.visit.proofs.RowTurns.{numbers_some}
use Rattle.seek.proofs.GlobalRests.{grest_run}
use Rattle.listed.specs.declared.CellAt.{CellAt}
use Rattle.listed.specs.Lists.{list_by, tests_of_cells}
use Rattle.listed.specs.Places.{FirstAt, LeftAt}
use Rattle.listed.proofs.AsIs.{list_increases}
use Rattle.listed.proofs.ListLaws.{from_later}
use Rattle.listed.proofs.CellLaws.{from_at}
use Rattle.resume.specs.AsTheyAre.{cells_looked_at, cells_to_look, list_as, globals_as}
use Rattle.resume.specs.Cursors.{zero_or_next, index_of, cursor, globals_from, spot_of, cursor_of}
use Rattle.resume.specs.Inside.{SpotAsks}

index_nil : (v : ℕ) → index_of v [] ≡ 0
unfolding index_of
index_nil v = refl

index_here : (v x : ℕ) (xs : List ℕ) → v ≡ x → index_of v (x ∷ xs) ≡ 0
unfolding index_of zero_or_next
index_here v x xs e = rw (eq-eqb v x e)

index_later : (v x : ℕ) (xs : List ℕ) → (v ≡ x → ⊥) → index_of v (x ∷ xs) ≡ suc (index_of v xs)
unfolding index_of zero_or_next
index_later v x xs e = rw (ne_eqb v x e)

-- ---- the search, entry by entry

pub record Seeking (xs : List ℕ) (v u : ℕ) : Type 0 where
  pub to : u ≤ length xs
  pub left : index_of v xs ≡ u + index_of v (drop u xs)

pub seeking_none : (xs : List ℕ) (v : ℕ) → Seeking xs v 0
seeking_none xs v = record { to = omega arith; left = omega arith }

module _ (xs : List ℕ) (v u : ℕ) (s : Seeking xs v u) where
  pub seeking_over : length xs ≤ u → length xs ≡ index_of v xs
  seeking_over h = let e : index_of v (drop u xs) ≡ 0 = rw (drop_of_length-le xs {i = u} h) (index_nil v) in omega (arith, s.left)

  module _ (h : u < length xs) where
    pub seeking_here : get_or xs u 0 ≡ v → u ≡ index_of v xs
    seeking_here e = let k : index_of v (drop u xs) ≡ 0 = rw (drop-cons xs u 0 h) (index_here v (get_or xs u 0) (drop (suc u) xs) (sym e)) in omega (arith, s.left)

    pub seeking_more : (get_or xs u 0 ≡ v → ⊥) → Seeking xs v (u + 1)
    seeking_more e =
        let k : index_of v (drop u xs) ≡ suc (index_of v (drop (u + 1) xs)) = rw (drop-cons xs u 0 h, add-one) (index_later v (get_or xs u 0) (drop (suc u) xs) (λ q. e (sym q))) in
        record { to = omega arith; left = omega (arith, s.left) }

-- ---- in a list that rises each value stands once

pub index_at : (low : ℕ) (xs : List ℕ) (a : ℕ) → Rising low xs → a < length xs → index_of (get_or xs a 0) xs ≡ a
index_at low [] a r h = absurd (omega arith)
index_at low (x ∷ xs) zero r h = index_here x x xs refl
index_at low (x ∷ xs) (suc a) r h =
    let l : x < get_or xs a 0 = rising_at low (x ∷ xs) 0 (suc a) r (omega arith) h in
    index_later (get_or xs a 0) x xs (λ e. omega arith) ∙ ap suc (index_at (suc x) xs a r.1 (omega arith))

-- ---- the cells that are looked at

pub reach_in : (cells told : ℕ) → cells_looked_at cells told ≤ cells
unfolding cells_looked_at
reach_in cells told = omega arith

pub reach_most : (cells told : ℕ) → cells_looked_at cells told ≤ 1002001
unfolding cells_looked_at
reach_most cells told = omega arith

-- ---- the cursor of what is left

pub cursor_end : (t : Tables) → cursor_of t [] ≡ cursor (cells_to_look t + length (globals_as t)) 0 0
unfolding cursor_of
cursor_end t = refl

cursor_at : (t : Tables) (pl : Place) (a b : ℕ) (rest : List Pair) → cursor_of t (pair pl a b ∷ rest) ≡ spot_of t pl a b
unfolding cursor_of
cursor_at t pl a b rest = refl

pub cursor_global : (t : Tables) (a x y : ℕ) (rest : List Pair) → cursor_of t (pair (Global a) x y ∷ rest) ≡ cursor (cells_to_look t + a) 0 y
unfolding cursor_of spot_of
cursor_global t a x y rest = refl

-- what is left after the first test of a run of lines
rest_of : ℕ → List ℕ → ℕ → ℕ → ℕ → List Pair
rest_of n globals a d stop =
    with_each (Global a) (get_or globals a 0) (numbers (stop - (d + 1)) (d + 1))
    ++ (with_each (Global a) (get_or globals a 0) (others (take (suc a) globals) (n - stop) stop) ++ global_tests n globals (length globals - suc a) (suc a))

global_begins : (n : ℕ) (globals : List ℕ) (p q k : ℕ) → GlobalAsks n (length globals) globals p q k → (a b d stop : ℕ) → GlobalIs n (length globals) globals p q k a b d stop
    → globals_from n globals p k ≡ pair (Global a) (get_or globals a 0) d ∷ rest_of n globals a d stop
unfolding rest_of
global_begins n globals p q k g a b d stop f =
    f.same ∙ grest_run n (length globals) globals g.table a b d f.fits f.inside stop d f.stops (omega arith) (omega (arith, f.one))
    ∙ rw (numbers_some stop d f.one, with_cons)

module _ (t : Tables) (m : ℕ) (em : m ≡ cells_to_look t) where
  -- what was found in the cells, taken apart
  pub cell_is : (rest : List Pair) (r : (Option CellAt)) → LeftAt t.cols t.lines m t.offsets t.items rest r → (x : CellAt) → r ≡ Some x
      → FirstAt t.cols t.lines m t.offsets t.items rest x.cell x.i x.j
  cell_is rest r f x k = subst (LeftAt t.cols t.lines m t.offsets t.items rest) k f

  pub cell_none : (rest : List Pair) (r : (Option CellAt)) → LeftAt t.cols t.lines m t.offsets t.items rest r → r ≡ None → rest ≡ []
  cell_none rest r f k = subst (LeftAt t.cols t.lines m t.offsets t.items rest) k f

  spot_cell : (c a b : ℕ) → c < m → a < length (list_as t c) → b < length (list_as t c)
      → cursor c a b ≡ spot_of t (place_of t.cols c) (get_or (list_as t c) a 0) (get_or (list_as t c) b 0)
  unfolding spot_of place_of
  spot_cell c a b h ha hb =
      let e : (c / t.cols) * t.cols + c % t.cols ≡ c = div-add-mod' c t.cols in
      let r : Rising 0 (list_as t c) = (list_increases t.lines t.offsets t.items c).rises in
      sym (rw (e, index_at 0 (list_as t c) a r ha, index_at 0 (list_as t c) b r hb))

  -- in a cell
  pub settled_cell : (rest : List Pair) (c a b : ℕ) → FirstAt t.cols t.lines m t.offsets t.items rest c a b → (later : List Pair) → cursor c a b ≡ cursor_of t (rest ++ later)
  settled_cell rest c a b f later =
      let x : ℕ = get_or (list_as t c) a 0 in
      let y : ℕ = get_or (list_as t c) b 0 in
      spot_cell c a b f.inside (omega (arith, f.later, f.among)) f.among
      ∙ sym (cursor_at t (place_of t.cols c) x y ((rest_in (place_of t.cols c) (list_as t c) a (suc b) ++ tests_of_cells t.cols (list_as t) (m - suc c) (suc c)) ++ later))
      ∙ ap (cursor_of t)
      (sym
      (ap (λ (l : List Pair). l ++ later)
      (f.is ∙ from_at t.cols (list_as t) m c f.inside a b
      ∙ ap (λ (l : List Pair). l ++ tests_of_cells t.cols (list_as t) (m - suc c) (suc c)) (from_later (place_of t.cols c) (list_as t c) a b f.later ∙ pair_taken (place_of t.cols c) (list_as t c) a b f.among))))

  module _ (rest : List Pair) (none : rest ≡ []) (n : ℕ) (en : n ≡ t.lines) (globals : List ℕ) (eg : globals ≡ globals_as t) (p q k : ℕ) where
    -- at a global
    pub settled_global : GlobalAsks n (length globals) globals p q k → (a b d stop : ℕ) → GlobalIs n (length globals) globals p q k a b d stop → (w : ℕ) → w ≡ d
        → cursor (m + a) 0 w ≡ cursor_of t (rest ++ globals_from n globals p k)
    settled_global g a b d stop f w ew =
        let e : globals_from n globals p k ≡ pair (Global a) (get_or globals a 0) d ∷ rest_of n globals a d stop = global_begins n globals p q k g a b d stop f in
        rw (ew, em) (sym (cursor_global t a (get_or globals a 0) d (rest_of n globals a d stop))) ∙ ap (cursor_of t) (sym (ap (λ (l : List Pair). l ++ globals_from n globals p k) none ∙ e))

    -- at the end
    pub settled_end : globals_from n globals p k ≡ [] → cursor (m + length globals) 0 0 ≡ cursor_of t (rest ++ globals_from n globals p k)
    settled_end e = rw (none, e, eg, em) (sym (cursor_end t))

-- ---- as the code finds them

pub reach_here : (rows cols told x y m : ℕ) → x ≡ rows → y ≡ cols → m ≡ cells_looked_at (x * y) told → m ≡ cells_looked_at (rows * cols) told
reach_here rows cols told x y m p q e = e ∙ rw (p, q)

pub spot_fits : (a b d : ℕ) → a < 4294967296 → b < 4294967296 → d < 4294967296 → a * b + d < 2 ^ 64
spot_fits a b d p q s = let u : a * b ≤ 4294967295 * b = mul-le-mul_right b (omega arith) in omega arith

pub spot_in : (globals : List ℕ) (pl : Place) (p : ℕ) → SpotAsks globals pl → pl ≡ Global p → p < length globals
spot_in globals pl p s e = subst (SpotAsks globals) e s

pub spotted_cell : (t : Tables) (pl : Place) (row col a b : ℕ) → pl ≡ Cell row col → (x y z : ℕ) → x ≡ row → y ≡ t.cols → z ≡ col
    → (xs : List ℕ) → xs ≡ list_by t.lines t.offsets t.items (x * y + z) → (i j : ℕ) → i ≡ index_of a xs → j ≡ index_of b xs → cursor (x * y + z) i j ≡ spot_of t pl a b
unfolding spot_of
spotted_cell t pl row col a b e x y z p q s xs l i j u v =
    let k : xs ≡ list_by t.lines t.offsets t.items (row * t.cols + col) = l ∙ rw (p, q, s) in
    rw (e, u, v, k, p, q, s)

pub spotted_global : (t : Tables) (pl : Place) (p a b : ℕ) → pl ≡ Global p → (m w : ℕ) → m ≡ cells_to_look t → w ≡ b → cursor (m + p) 0 w ≡ spot_of t pl a b
unfolding spot_of
spotted_global t pl p a b e m w q s = rw (e, q, s)
