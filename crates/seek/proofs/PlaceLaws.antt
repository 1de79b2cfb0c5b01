-- A list by its place, case by case. Assumes nothing.
use Rattle.std.specs.Prelude.{Ok, Err}
use Rattle.refusals.specs.Refusals.{Check}
use mathlib.Core.Path.{◌≡◌, refl, sym, ap, ◌∙◌}
use mathlib.Core.Bool.{true, ◌&&◌}
use mathlib.Core.List.{List, []}
use Prim.Native.Nat.{ℕ, suc, ◌+◌, ◌-◌, ◌*◌, ◌≤◌, ◌<◌}
use native.Mathlib.Omega.{arith}
use lib.ListN.{length, get_or, take, drop}
use lib.Seq.{length-slice}
use lib.Dec.{ltb}
use borrow.Author.Tests.{ltb-true}
use Rattle.refusals.specs.declared.Refusal.{Refusal}
use Rattle.refusals.specs.Refusals.{gives, ◌then◌, answer_by}
use Rattle.refusals.proofs.Answers.{refused_by, past}
use Rattle.refusals.proofs.Checks.{unless_fine, and_then_refused, and_then_fine, and_then_left, and_then_right}
use Rattle.grid.specs.declared.Grid.{Grid}
use Rattle.grid.specs.Domain.{cell_check}
use Rattle.grid.proofs.Bools.{and_left, and_right}
use Rattle.grid.proofs.Shapes.{cell_inside}
use Rattle.tables.specs.Tables.{Tables, cells, part_in}
use Rattle.tables.specs.Fit.{TablesFit, standing_check}
use Rattle.tables.proofs.Facts.{part_slice}
use Rattle.tables.proofs.Checking.{standing_says}
use Rattle.seek.specs.declared.Place.{Place}
use Rattle.seek.specs.declared.Place.TheVariants.{Cell, Global}
use Rattle.seek.specs.Places.{place_check, list_check, list_at, part_at}
use Rattle.tables.proofs.Parts.{fit_cells, part_fits}

-- ---- the checks

module _ (g : Grid) (t : Tables) (pl : Place) where
  pub list_tables : (r : Refusal) → standing_check g t ≡ Err r → Err r ≡ list_check g t pl
  unfolding list_check
  list_tables r e = sym (and_then_refused _ _ r e)

  pub list_place : standing_check g t ≡ (Ok tt) → place_check g t.global_count pl ≡ list_check g t pl
  unfolding list_check
  list_place e = sym (and_then_fine _ _ e)

-- ---- what they say

pub record CellPlace (g : Grid) (t : Tables) (row col : ℕ) : Type 0 where
  pub table : TablesFit t
  pub rows : row < g.rows
  pub cols : col < g.cols
  pub few : g.rows * g.cols ≤ 1002001

pub cell_place : (g : Grid) (t : Tables) (row col : ℕ) → list_check g t (Cell row col) ≡ (Ok tt) → CellPlace g t row col
unfolding list_check place_check cell_check
cell_place g t row col h =
    let s = standing_says g t (and_then_left _ _ h) in
    let e : (ltb row g.rows && ltb col g.cols) ≡ true = unless_fine (ltb row g.rows && ltb col g.cols) 9 row (and_then_right _ _ h) in
    record {
      table = s.tables;
      rows = ltb-true row g.rows (and_left (ltb row g.rows) (ltb col g.cols) e);
      cols = ltb-true col g.cols (and_right (ltb row g.rows) (ltb col g.cols) e);
      few = s.grid.counts.cells;
    }

pub record GlobalPlace (t : Tables) (p : ℕ) : Type 0 where
  pub table : TablesFit t
  pub inside : p < t.global_count

pub global_place : (g : Grid) (t : Tables) (p : ℕ) → list_check g t (Global p) ≡ (Ok tt) → GlobalPlace t p
unfolding list_check place_check
global_place g t p h =
    record {
      table = (standing_says g t (and_then_left _ _ h)).tables;
      inside = ltb-true p t.global_count (unless_fine (ltb p t.global_count) 9 p (and_then_right _ _ h));
    }

-- ---- the part

module _ (g : Grid) (t : Tables) (pl : Place) where
  pub part_refused : (r : Refusal) → list_check g t pl ≡ Err r → [] ≡ part_at g t pl
  unfolding part_at
  part_refused r e = refused_by (λ (q : Refusal). []) (list_at t) (list_check g t pl) (gives pl) r e

  part_fine : list_check g t pl ≡ (Ok tt) → list_at t pl ≡ part_at g t pl
  unfolding part_at answer_by
  part_fine e = past (λ (q : Refusal). []) (list_at t) (list_check g t pl) (gives pl) e

-- a cell's list: r, k and l are the row, the columns and the column, as the code has them
module _ (g : Grid) (t : Tables) (rows : t.rows ≡ g.rows) (cols : t.cols ≡ g.cols) (pl : Place) (h : list_check g t pl ≡ (Ok tt))
    (row col : ℕ) (e : pl ≡ Cell row col) (r k l : ℕ) (er : r ≡ row) (ek : k ≡ g.cols) (el : l ≡ col) where
  at_cell : list_check g t (Cell row col) ≡ Ok tt
  at_cell = rw e at h

  facts : CellPlace g t row col
  facts = cell_place g t row col at_cell

  number : r * k + l < g.rows * g.cols
  number = rw (er, ek, el) (cell_inside g.rows g.cols row col facts.rows facts.cols)

  pub number_few : r * k + l < 1002001
  number_few = omega (arith, number, facts.few)

  number_in : r * k + l < cells t
  number_in = rw (rows, cols) number

  pub part_cell : {s : List ℕ} → s ≡ part_in t.offsets t.items (r * k + l) → s ≡ part_at g t pl
  unfolding list_at
  part_cell q =
      let n : r * k + l ≡ row * t.cols + col = rw (er, ek, el, cols) in
      q ∙ part_fits (fit_cells t facts.table) (r * k + l) number_in ∙ rw (n, e) (part_fine g t (Cell row col) at_cell)

-- the globals from a position on
module _ (g : Grid) (t : Tables) (pl : Place) (h : list_check g t pl ≡ (Ok tt)) (p : ℕ) (e : pl ≡ Global p) where
  at_global : list_check g t (Global p) ≡ Ok tt
  at_global = rw e at h

  pub global_from : p ≤ t.global_count
  global_from = omega (arith, (global_place g t p at_global).inside)

  pub global_to : t.global_count ≤ length t.globals
  global_to = (global_place g t p at_global).table.counted

  pub part_global : take (t.global_count - p) (drop p t.globals) ≡ part_at g t pl
  unfolding list_at
  part_global = part_slice p t.global_count t.globals ∙ rw e (part_fine g t (Global p) at_global)

-- ---- a part that is given: it has lines, or the check found nothing

-- a list, unless its check refuses
unfoldable pub given : Check → List ℕ → List ℕ
given (Ok _) xs = xs
given (Err r) xs = []

pub part_is : (g : Grid) (t : Tables) (pl : Place) → part_at g t pl ≡ given (list_check g t pl) (list_at t pl)
unfolding part_at answer_by ◌then◌ given
part_is g t pl = go (list_check g t pl)
  where
    go : (k : Check) → answer_by (λ (r : Refusal). []) (list_at t) (k then gives pl) ≡ given k (list_at t pl)
    go (Ok _) = refl
    go (Err r) = refl

pub part_some : (check : Check) (xs ys : List ℕ) → ys ≡ given check xs → 0 < length ys → check ≡ Ok tt
unfolding given
part_some (Ok _) xs ys e h = refl
part_some (Err r) xs ys e h = absurd (omega (arith, ap length e))

pub part_whole : (check : Check) (xs ys : List ℕ) → ys ≡ given check xs → check ≡ (Ok tt) → ys ≡ xs
unfolding given
part_whole check xs ys e h = e ∙ rw h

-- ---- where it ends: it starts at its offset, or at its position

pub cell_ends : (g : Grid) (t : Tables) → t.rows ≡ g.rows → t.cols ≡ g.cols → (row col : ℕ) → list_check g t (Cell row col) ≡ Ok tt
    → get_or t.offsets (row * t.cols + col) 0 + length (list_at t (Cell row col)) ≡ get_or t.offsets (suc (row * t.cols + col)) 0
unfolding list_at
cell_ends g t rows cols row col h =
    let p = cell_place g t row col h in
    let k : row * t.cols + col < cells t = rw (rows, cols) (cell_inside g.rows g.cols row col p.rows p.cols) in
    let c = fit_cells t p.table in
    let low = c.rises (row * t.cols + col) k in
    let high = c.within (suc (row * t.cols + col)) k in
    omega (arith, length-slice (get_or t.offsets (row * t.cols + col) 0) (get_or t.offsets (suc (row * t.cols + col)) 0) t.items high)

pub global_ends : (g : Grid) (t : Tables) (p : ℕ) → list_check g t (Global p) ≡ (Ok tt) → p + length (list_at t (Global p)) ≡ t.global_count
unfolding list_at
global_ends g t p h =
    let f = global_place g t p h in
    omega (arith, f.inside, length-slice p t.global_count t.globals f.table.counted)
