-- The lists by line have no more entries than the items of tables that fit, and what their checks say. Assumes nothing.
use Rattle.std.specs.Prelude.{Ok, Err}
use mathlib.Core.Path.{◌≡◌, refl, sym, ◌∙◌}
use mathlib.Core.Bool.{Bool, true, false, ◌||◌}
use mathlib.Core.List.{List, [], ◌∷◌, ◌++◌}
use Prim.Native.Nat.{ℕ, zero, suc, ◌+◌, ◌*◌, ◌≤◌, ◌<◌, ◌^◌}
use native.Mathlib.Nat.{zero-add}
use native.Mathlib.Omega.{arith}
use native.Mathlib.Decide.{ℕ_discrete}
use borrow.Author.Tests.{leb-true, ltb-true, eqb-true, lt-ltb, le-ltb, eq-eqb, ne_eqb}
use lib.Dec.{leb, ltb, eqb}
use lib.ListN.{length, get_or, length-append}
use lib.Seq.{length-slice}
use Rattle.slices.specs.Lists.{elem, Below, Rising}
use Rattle.slices.proofs.Distinct.{not_elem}
use Rattle.refusals.specs.declared.Refusal.{Refusal}
use Rattle.refusals.specs.Refusals.{unless, refused, gives, answer_by, clears, left_in}
use Rattle.refusals.proofs.Checks.{unless_fine, and_then_left, and_then_right}
use Rattle.refusals.proofs.Answers.{then_refused, then_fine}
use Rattle.refusals.proofs.Leaving.{left_same, Clearing, clearing_unless, clearing_then}
use Rattle.grid.specs.declared.Grid.{Grid}
use Rattle.grid.specs.Domain.{count_check, grid_check, fit}
use Rattle.grid.proofs.Bools.{and_left, and_right}
use Rattle.grid.proofs.Shapes.{Fit, fit_says}
use Rattle.tables.specs.Tables.{Tables, tables, cells, list_in, list_of}
use Rattle.tables.specs.Fit.{TablesFit, tables_check, standing_check}
use Rattle.tables.specs.Lists.{Walks, only, lines_at, sum, start}
use Rattle.tables.specs.InsideFit.{CellsFit}
use Rattle.tables.proofs.Facts.{check_facts}
use Rattle.tables.proofs.Parts.{fit_cells}
use Rattle.tables.proofs.Laws.{sum_same, sum_add}
use Rattle.by_line.specs.ByLine.{cells_listing, lists_room_check, by_line, ByLineIs}
use Rattle.by_line.specs.Inside.{MakeAsks, Made}

-- ---- double counting

sum_nought : (m : ℕ) → sum (λ c. 0) m ≡ 0
unfolding sum
sum_nought zero = refl
sum_nought (suc m) = omega (arith, sum_nought m)

only_or : (a b : Bool) (i : ℕ) → (a ≡ true → b ≡ false) → length (only (a || b) i) ≡ length (only a i) + length (only b i)
only_or true b i h = rw (h refl)
only_or false b i h = sym (zero-add (length (only b i)))

sum_none : (x i n : ℕ) → n ≤ x → sum (λ c. length (only (eqb c x) i)) n ≡ 0
unfolding sum
sum_none x i zero l = refl
sum_none x i (suc n) l = rw (ne_eqb n x (omega arith)) (omega (arith, sum_none x i n (omega arith)))

sum_one : (x i n : ℕ) → x < n → sum (λ c. length (only (eqb c x) i)) n ≡ 1
unfolding sum
sum_one x i zero l = absurd (omega arith)
sum_one x i (suc n) l = go (λ q. sum_one x i n q) (ℕ_discrete n x)
  where
    go : (x < n → sum (λ c. length (only (eqb c x) i)) n ≡ 1) → Dec (n ≡ x) → sum (λ c. length (only (eqb c x) i)) n + length (only (eqb n x) i) ≡ 1
    go ih (yes e) = rw (eq-eqb n x e) (omega (arith, sum_none x i n (omega arith)))
    go ih (no d) = rw (ne_eqb n x d) (omega (arith, ih (omega arith)))

-- of the numbers below n, as many are in a list that increases below n as it has entries
sum_in : (low : ℕ) (xs : List ℕ) (i n : ℕ) → Rising low xs → Below n xs → sum (λ c. length (only (elem c xs) i)) n ≡ length xs
sum_in low [] i n r b = sum_nought n
sum_in low (x ∷ xs) i n r b =
    sum_same (λ c. length (only (eqb c x || elem c xs) i)) (λ c. length (only (eqb c x) i) + length (only (elem c xs) i)) n
    (λ c l. only_or (eqb c x) (elem c xs) i (λ e. not_elem c (suc x) xs (omega (arith, eqb-true c x e)) r.1))
    ∙ omega (
      arith,
      sum_add (λ c. length (only (eqb c x) i)) (λ c. length (only (elem c xs) i)) n,
      sum_one x i n b.0,
      sum_in (suc x) xs i n r.1 b.1,
    )

-- the lists of W turned round are as long in all as those of W
pub turned : (W : ℕ → List ℕ) (n m k : ℕ) → Walks W k n → m ≤ k → start (lines_at W m) n ≡ sum (λ i. length (W i)) m
unfolding lines_at sum
turned W n zero k w l = sum_nought n
turned W n (suc i) k w l =
    omega (
      arith,
      turned W n i k w (omega arith),
      sum_in 0 (W i) i n (w.rises i (omega arith)) (w.below i (omega arith)),
      sum_add (λ c. length (lines_at W i c)) (λ c. length (only (elem c (W i)) i)) n,
      sum_same (λ c. length (lines_at W i c ++ only (elem c (W i)) i)) (λ c. length (lines_at W i c) + length (only (elem c (W i)) i)) n (λ c l. length-append (lines_at W i c) (only (elem c (W i)) i)),
    )

-- the lists between offsets end where the last offset is
lists_sum : (offsets items : List ℕ) (k m : ℕ) → get_or offsets 0 0 ≡ 0 → CellsFit k offsets items → m ≤ k
    → sum (λ c. length (list_in offsets items c)) m ≡ get_or offsets m 0
unfolding sum
lists_sum offsets items k zero z h l = sym z
lists_sum offsets items k (suc m) z h l =
    omega (
      arith,
      lists_sum offsets items k m z h (omega arith),
      length-slice (get_or offsets m 0) (get_or offsets (suc m) 0) items (h.within (suc m) l),
      h.rises m l,
    )

-- ---- the checks

-- the room: one test after another
module _ (lines items starts listing : ℕ) where
  pub room_starts : starts ≤ lines → unless false 3 0 ≡ lists_room_check lines items starts listing
  unfolding lists_room_check
  room_starts h = rw (le-ltb lines starts h)

  pub room_listing : lines < starts → unless (leb items listing) 3 0 ≡ lists_room_check lines items starts listing
  unfolding lists_room_check
  room_listing h = rw (lt-ltb lines starts h)

  pub room_says : lists_room_check lines items starts listing ≡ Ok tt → (lines < starts) × (items ≤ listing)
  unfolding lists_room_check
  room_says h =
      let b = unless_fine _ 3 0 h in
      (ltb-true lines starts (and_left (ltb lines starts) (leb items listing) b), leb-true items listing (and_right (ltb lines starts) (leb items listing) b))

  room_spares : Clearing false (lists_room_check lines items starts listing)
  unfolding lists_room_check clears
  room_spares = clearing_unless _ 3 0 refl

-- no check of tables refuses by 4 to 7
pub standing_spares : (g : Grid) (t : Tables) → Clearing false (standing_check g t)
unfolding standing_check count_check grid_check tables_check clears
standing_spares g t = clearing_then (clearing_unless _ 2 _ refl) (clearing_then (clearing_unless _ 8 0 refl) (clearing_unless _ 10 0 refl))

-- what tables that pass say
pub record Passed (g : Grid) (t : Tables) : Type 0 where
  pub few : t.lines ≤ 65536
  pub shape : Fit g
  pub fits : TablesFit t

pub passed : (g : Grid) (t : Tables) → standing_check g t ≡ Ok tt → Passed g t
unfolding standing_check count_check grid_check
passed g t h =
    let a = and_then_left _ _ h in
    let b = and_then_right _ _ h in
    record {
      few = leb-true t.lines 65536 (unless_fine _ 2 t.lines a);
      shape = fit_says g (unless_fine (fit g) 8 0 (and_then_left _ _ b));
      fits = check_facts t (and_then_right _ _ b);
    }

module _ (t : Tables) (f : TablesFit t) where
  pub table_walks : Walks (list_of t) (cells t) t.lines
  table_walks = record { rises = λ c h. (f.lists.lists c h).rises; below = λ c h. (f.lists.lists c h).below }

  -- THE TOTAL: the lists by line have as many cells as there are items that count
  pub by_line_total : start (cells_listing t) t.lines ≡ get_or t.offsets (cells t) 0
  by_line_total =
      turned (list_of t) t.lines (cells t) (cells t) table_walks (omega arith)
      ∙ lists_sum t.offsets t.items (cells t) (cells t) f.lists.first (fit_cells t f) (omega arith)

-- ---- the entry

module _ (g : Grid) (n : ℕ) (offsets items globals : List ℕ) (k : ℕ) (starts listing : List ℕ) where
  abbrev t : Tables
  t = tables g n offsets items globals k

  module _ (r : Refusal) where
    refused_is : Clearing false (Err r) → by_line g t starts listing ≡ refused r → ByLineIs g t starts listing (Err r) starts listing
    unfolding answer_by left_in
    refused_is s e =
        let q = s.says r refl in
        record { answers = rw e; starts_are = rw e (sym (left_same 0 r starts q)); listing_is = rw e (sym (left_same 0 r listing q)) }

    pub by_line_room : lists_room_check n (length items) (length starts) (length listing) ≡ Err r → ByLineIs g t starts listing (Err r) starts listing
    unfolding by_line
    by_line_room e = refused_is (rw e at (room_spares n (length items) (length starts) (length listing))) (then_refused _ _ r e)

    pub by_line_tables : lists_room_check n (length items) (length starts) (length listing) ≡ Ok tt → standing_check g t ≡ Err r
        → ByLineIs g t starts listing (Err r) starts listing
    unfolding by_line
    by_line_tables f e = refused_is (rw e at (standing_spares g t)) (then_fine _ _ f ∙ then_refused _ _ r e)

  module _ (f : lists_room_check n (length items) (length starts) (length listing) ≡ Ok tt) (h : standing_check g t ≡ Ok tt) where
    pub by_line_cells : g.rows * g.cols < 2 ^ 32
    by_line_cells = omega (arith, (passed g t h).shape.counts.cells)

    pub by_line_last : g.rows * g.cols < length offsets
    by_line_last = omega (arith, (passed g t h).fits.long)

    pub by_line_asks : get_or offsets (g.rows * g.cols) 0 < 2 ^ 32 → MakeAsks (g.rows * g.cols) n offsets items starts listing
    by_line_asks l =
        let p = passed g t h in
        let b = room_says n (length items) (length starts) (length listing) f in
        let e = by_line_total t p.fits in
        record {
          table = record { fits = fit_cells t p.fits; walks = table_walks t p.fits; few_lines = omega (arith, p.few); few_cells = by_line_cells };
          room = b.0;
          space = omega (arith, p.fits.lists.within, b.1);
          small = omega arith;
        }

    pub by_line_made : {r : ℕ} {starts' listing' : List ℕ} → r ≡ get_or offsets (g.rows * g.cols) 0 → Made (g.rows * g.cols) n offsets items starts listing starts' listing'
        → ByLineIs g t starts listing (Ok r) starts' listing'
    unfolding by_line answer_by left_in
    by_line_made q w =
        let e : by_line g t starts listing ≡ gives (start (cells_listing t) n) = then_fine _ _ f ∙ then_fine _ _ h in
        record { answers = rw (e, q, by_line_total t (passed g t h).fits); starts_are = rw e w.starts_are; listing_is = rw e w.listing_is }
