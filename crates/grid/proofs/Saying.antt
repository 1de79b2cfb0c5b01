-- Words that say a grid: a grid's own words say it, and a count that 32 bits do not hold says no fit grid. Assumes nothing.
use mathlib.Core.Path.{◌≡◌, refl}
use mathlib.Core.Bool.{Bool, true, false, ◌&&◌}
use mathlib.Core.List.{List, ◌∷◌}
use Prim.Native.Nat.{ℕ, ◌-◌, ◌^◌, ◌≤◌, ◌<◌, min}
use native.Mathlib.Omega.{arith}
use native.Mathlib.Decide.{ℕ_discrete}
use lib.Dec.{T}
use lib.Ieee.{Float, binary64, fits, of_bits, to_bits}
use lib.Ieee.Bits.{of_bits-to_bits}
use lib.ListN.{get_or}
use borrow.Author.Tests.{ne_eqb}
use Rattle.grid.specs.declared.Grid.{Grid}
use Rattle.grid.specs.Domain.{point, sizes_fit, counts, shape, fit}
use Rattle.grid.specs.Words.{count_by, grid_by}
use Rattle.grid.proofs.Shapes.{shape_none, shape_wide, shape_high}

-- ---- a count by its word

pub count_small : (word : ℕ) → word < 4294967295 → word ≡ count_by word
unfolding count_by
count_small word h = omega arith

pub count_large : (word : ℕ) → 4294967295 ≤ word → 4294967295 ≡ count_by word
unfolding count_by
count_large word h = omega arith

-- ---- the grid by its words

pub by_words : (ws : List ℕ) {a b p q c r cols rows : ℕ} {x y width height : Float} →
    a ≡ get_or ws 0 0 → b ≡ get_or ws 1 0 → p ≡ get_or ws 2 0 → q ≡ get_or ws 3 0 → c ≡ get_or ws 4 0 → r ≡ get_or ws 5 0 →
    x ≡ of_bits binary64 a → y ≡ of_bits binary64 b → width ≡ of_bits binary64 p → height ≡ of_bits binary64 q → cols ≡ count_by c → rows ≡ count_by r →
    ◌≡◌ {A = Grid} (record { min_x = x; min_y = y; cell_width = width; cell_height = height; cols = cols; rows = rows }) (grid_by ws)
unfolding grid_by
by_words ws a b p q c r f g h i k l = rw (f, a, g, b, h, p, i, q, k, c, l, r)

-- the words of a grid, whatever follows them, say that grid
pub says : (g : Grid) (more : List ℕ) →
    T (fits binary64 g.min_x) → T (fits binary64 g.min_y) → T (fits binary64 g.cell_width) → T (fits binary64 g.cell_height) →
    g.cols < 2 ^ 32 → g.rows < 2 ^ 32 →
    grid_by
    (to_bits binary64 g.min_x ∷ to_bits binary64 g.min_y ∷ to_bits binary64 g.cell_width ∷ to_bits binary64 g.cell_height
    ∷ g.cols ∷ g.rows ∷ more) ≡ g
unfolding grid_by count_by
says g more x y w h c r =
    let p : min g.cols (2 ^ 32 - 1) ≡ g.cols = omega arith in
    let q : min g.rows (2 ^ 32 - 1) ≡ g.rows = omega arith in
    let a = of_bits-to_bits binary64 g.min_x x in
    let b = of_bits-to_bits binary64 g.min_y y in
    rw (a, b, of_bits-to_bits binary64 g.cell_width w, of_bits-to_bits binary64 g.cell_height h, p, q)

-- ---- what 32 bits do not hold

cut_not : (word : ℕ) → 2 ^ 32 ≤ word → counts (count_by word) ≡ false
unfolding count_by
cut_not word h = let e : min word (2 ^ 32 - 1) ≡ 4294967295 = omega arith in rw e

cut_some : (word : ℕ) → 2 ^ 32 ≤ word → count_by word ≡ 0 → ⊥
unfolding count_by
cut_some word h e = omega (arith, e)

and_none : (p q : Bool) → (p && (q && false)) ≡ false
and_none true true = refl
and_none true false = refl
and_none false q = refl

unfit : (g : Grid) → false ≡ shape g.cols g.rows → fit g ≡ false
unfolding fit
unfit g h = rw (← h) (and_none (point g.min_x g.min_y) (sizes_fit g.cell_width g.cell_height))

high_not : (cols rows : ℕ) → (rows ≡ 0 → ⊥) → counts rows ≡ false → false ≡ shape cols rows
high_not cols rows s h = elim (ℕ_discrete cols 0) [
  | yes e ↦ rw (← shape_none cols rows e, ne_eqb rows 0 s)
  | no n ↦ go (counts cols) refl n
]
  where
    go : (b : Bool) → counts cols ≡ b → (cols ≡ 0 → ⊥) → false ≡ shape cols rows
    go true k n = shape_high cols rows n k h
    go false k n = shape_wide cols rows n k

-- more columns, or more rows, than 32 bits hold are refused by 8 where an unfit grid is
pub cols_unfit : (words : List ℕ) → 2 ^ 32 ≤ get_or words 4 0 → fit (grid_by words) ≡ false
unfolding grid_by
cols_unfit words h = unfit (grid_by words) (shape_wide _ _ (cut_some (get_or words 4 0) h) (cut_not (get_or words 4 0) h))

pub rows_unfit : (words : List ℕ) → 2 ^ 32 ≤ get_or words 5 0 → fit (grid_by words) ≡ false
unfolding grid_by
rows_unfit words h = unfit (grid_by words) (high_not _ _ (cut_some (get_or words 5 0) h) (cut_not (get_or words 5 0) h))
