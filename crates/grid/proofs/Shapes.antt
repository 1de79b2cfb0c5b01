-- What a fit grid's counts say, and the number of a cell. Assumes nothing.
use mathlib.Core.Path.{◌≡◌, refl, sym}
use mathlib.Core.Bool.{Bool, true, false, ◌&&◌, ◌||◌, or-false}
use Prim.Native.Nat.{ℕ, ◌+◌, ◌*◌, ◌/◌, ◌%◌, ◌^◌, ◌≤◌, ◌<◌}
use native.Mathlib.Nat.{mul-le-mul_left, mul-le-mul_right, le_trans}
use native.Mathlib.Omega.{arith}
use borrow.Author.Tests.{eqb-true, leb-true, ne_eqb}
use lib.Arith.{digits_lt, digits_div, digits_mod}
use lib.Dec.{leb, eqb}
use Rattle.grid.specs.declared.Grid.{Grid}
use Rattle.grid.specs.Domain.{coordinate, point, counts, shape, size_fits, sizes_fit, fit}
use Rattle.grid.proofs.Bools.{and_left, and_right}

-- two numbers of 32 bits have a product of 64
pub wide_product : (a b : ℕ) → a < 2 ^ 32 → b < 2 ^ 32 → a * b < 2 ^ 64
wide_product a b h k =
    let p : a ≤ 4294967295 = omega arith in
    let q : b ≤ 4294967295 = omega arith in
    let u : a * b ≤ 4294967295 * 4294967295 = le_trans (mul-le-mul_right b p) (mul-le-mul_left 4294967295 q) in
    omega arith

-- the number of the cell at a row and a column: it is below the number of cells, and says both
pub cell_inside : (rows cols r c : ℕ) → r < rows → c < cols → r * cols + c < rows * cols
cell_inside rows cols r c h k = digits_lt h k

pub col_of : (cols r c : ℕ) → c < cols → (r * cols + c) % cols ≡ c
col_of cols r c h = digits_mod r h

pub row_of_lem : (cols r c : ℕ) → c < cols → (r * cols + c) / cols ≡ r
row_of_lem cols r c h = digits_div r h

count_within : (a : ℕ) → counts a ≡ true → a ≤ 4004
count_within a h = leb-true _ _ (and_right (leb 1 a) (leb a 4004) h)

-- ---- the test, case by case

pub shape_none : (cols rows : ℕ) → cols ≡ 0 → eqb rows 0 ≡ shape cols rows
unfolding shape
shape_none cols rows h = rw h (sym (or-false (eqb rows 0)))

module _ (cols rows : ℕ) (some : cols ≡ 0 → ⊥) where
  pub shape_wide : counts cols ≡ false → false ≡ shape cols rows
  unfolding shape
  shape_wide h = rw (ne_eqb cols 0 some, h)

  pub shape_high : counts cols ≡ true → counts rows ≡ false → false ≡ shape cols rows
  unfolding shape
  shape_high h k = rw (ne_eqb cols 0 some, h, k)

  pub shape_cells : counts cols ≡ true → counts rows ≡ true → leb (rows * cols) 1002001 ≡ shape cols rows
  unfolding shape
  shape_cells h k = rw (ne_eqb cols 0 some, h, k)

-- ---- what it says

pub record Shape (cols rows : ℕ) : Type 0 where
  pub wide : cols ≤ 4004
  pub high : rows ≤ 4004
  pub cells : rows * cols ≤ 1002001
  pub alike : 0 < cols → 0 < rows
  pub alike' : 0 < rows → 0 < cols

pub shape_says : (cols rows : ℕ) → shape cols rows ≡ true → Shape cols rows
unfolding shape
shape_says cols rows h = go (eqb cols 0 && eqb rows 0) refl h
  where
    go : (b : Bool) → (eqb cols 0 && eqb rows 0) ≡ b → (b || (counts cols && (counts rows && leb (rows * cols) 1002001))) ≡ true → Shape cols rows
    go true e k =
        let x : cols ≡ 0 = eqb-true cols 0 (and_left (eqb cols 0) (eqb rows 0) e) in
        let y : rows ≡ 0 = eqb-true rows 0 (and_right (eqb cols 0) (eqb rows 0) e) in
        record { wide = omega arith; high = omega arith; cells = rw (x, y) (omega arith); alike = λ l. absurd (omega arith); alike' = λ l. absurd (omega arith) }
    go false e k =
        let a : counts cols ≡ true = and_left (counts cols) (counts rows && leb (rows * cols) 1002001) k in
        let r : (counts rows && leb (rows * cols) 1002001) ≡ true = and_right (counts cols) (counts rows && leb (rows * cols) 1002001) k in
        let b : counts rows ≡ true = and_left (counts rows) (leb (rows * cols) 1002001) r in
        let x : 1 ≤ cols = leb-true 1 cols (and_left (leb 1 cols) (leb cols 4004) a) in
        let y : 1 ≤ rows = leb-true 1 rows (and_left (leb 1 rows) (leb rows 4004) b) in
        record {
          wide = count_within cols a;
          high = count_within rows b;
          cells = leb-true (rows * cols) 1002001 (and_right (counts rows) (leb (rows * cols) 1002001) r);
          alike = λ l. omega arith;
          alike' = λ l. omega arith;
        }

pub record Fit (g : Grid) : Type 0 where
  pub «min_x» : coordinate g.min_x ≡ true
  pub «min_y» : coordinate g.min_y ≡ true
  pub «cell-width» : size_fits g.cell_width ≡ true
  pub «cell-height» : size_fits g.cell_height ≡ true
  pub counts : Shape g.cols g.rows

pub fit_says : (g : Grid) → fit g ≡ true → Fit g
unfolding fit point sizes_fit
fit_says g h =
    let p = coordinate g.min_x && coordinate g.min_y in
    let w = size_fits g.cell_width in
    let h' = size_fits g.cell_height in
    let s = w && h' in
    let k : (s && shape g.cols g.rows) ≡ true = and_right p (s && shape g.cols g.rows) h in
    let m : p ≡ true = and_left p (s && shape g.cols g.rows) h in
    record {
      «min_x» = and_left (coordinate g.min_x) (coordinate g.min_y) m;
      «min_y» = and_right (coordinate g.min_x) (coordinate g.min_y) m;
      «cell-width» = and_left w h' (and_left s (shape g.cols g.rows) k);
      «cell-height» = and_right w h' (and_left s (shape g.cols g.rows) k);
      counts = shape_says g.cols g.rows (and_right s (shape g.cols g.rows) k);
    }

-- the counts of a fit grid pass their test
pub fit_shape : (g : Grid) → fit g ≡ true → shape g.cols g.rows ≡ true
unfolding fit
fit_shape g h =
    and_right (sizes_fit g.cell_width g.cell_height) (shape g.cols g.rows)
    (and_right (point g.min_x g.min_y) (sizes_fit g.cell_width g.cell_height && shape g.cols g.rows) h)
