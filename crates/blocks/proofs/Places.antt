-- Where cells and blocks stand: the block of a cell, that it is one of the blocks, and how many blocks a fit grid has at most. Assumes nothing.
use mathlib.Core.Path.{◌≡◌, ap, ◌∙◌}
use mathlib.Core.Bool.{true}
use Prim.Native.Nat.{ℕ, zero, suc, ◌+◌, ◌-◌, ◌*◌, ◌/◌, ◌%◌, ◌≤◌, ◌<◌, ◌^◌}
use native.Mathlib.Nat.{mod-lt, mod-eq_of_lt, div-eq_of_lt, div-lt_iff_lt-mul, mul-add-div_right, mul-add-mod_self_right, mul-le-mul_right, mul-le-mul_left, mul-add, add-mul, mul_assoc, mul_comm, suc-mul, mul-suc}
use native.Mathlib.Decide.{dec_lt}
use native.Mathlib.Omega.{arith}
use Rattle.grid.specs.declared.Grid.{Grid}
use Rattle.grid.specs.Domain.{fit}
use Rattle.grid.proofs.Shapes.{fit_says, cell_inside}
use Rattle.blocks.specs.Blocks.{along, blocks, block_of}

-- ---- row and column of a place in row order

module _ (cols r c : ℕ) (h : c < cols) where
  pub col_of : (r * cols + c) % cols ≡ c
  col_of = mul-add-mod_self_right r cols c ∙ mod-eq_of_lt h

  pub row_of_lem : (r * cols + c) / cols ≡ r
  row_of_lem = let some : 0 < cols = omega arith in let e = div-eq_of_lt h in let u = mul-add-div_right some r c in omega arith

-- ---- the block of a cell

pub block_at : (cols row x : ℕ) → x < cols → block_of cols (row * cols + x) ≡ row / 16 * along cols + x / 16
unfolding block_of
block_at cols row x h = rw (row_of_lem cols row x h, col_of cols row x h)

-- a place of an axis lies in one of its blocks
pub along_over : (n x : ℕ) → x < n → x / 16 < along n
unfolding along
along_over n x h = omega arith

-- a count of 32 bits, of a grid that is unfit too
pub along_small : (n : ℕ) → n < 2 ^ 32 → along n ≤ 268435456
unfolding along
along_small n h = omega arith

pub product_small : (a b : ℕ) → a ≤ 268435456 → b ≤ 268435456 → a * b < 2 ^ 64
product_small a b h k =
    let u : a * b ≤ a * 268435456 = mul-le-mul_left a k in
    omega arith

pub block_under : (rows cols row x : ℕ) → row < rows → x < cols → row / 16 * along cols + x / 16 < along rows * along cols
block_under rows cols row x h k = cell_inside (along rows) (along cols) (row / 16) (x / 16) (along_over rows row h) (along_over cols x k)

-- the row and the column of a cell, and of its block
pub record Cell (rows cols c : ℕ) : Type 0 where
  pub row_under : c / cols < rows
  pub col_under : c % cols < cols

pub cell_there : (rows cols c : ℕ) → c < rows * cols → Cell rows cols c
cell_there rows zero c h = absurd (omega arith)
cell_there rows (suc n) c h =
    let some : 0 < suc n = omega arith in
    record { row_under = (div-lt_iff_lt-mul some).1 h; col_under = mod-lt c some }

pub block_there : (rows cols c : ℕ) → c < rows * cols → block_of cols c < along rows * along cols
unfolding block_of
block_there rows cols c h = let p = cell_there rows cols c h in block_under rows cols (c / cols) (c % cols) p.row_under p.col_under

module _ (rows cols c : ℕ) (h : c < rows * cols) where
  pub block_row : block_of cols c / along cols ≡ c / cols / 16
  unfolding block_of
  block_row = row_of_lem (along cols) (c / cols / 16) (c % cols / 16) (along_over cols (c % cols) (cell_there rows cols c h).col_under)

  pub block_col : block_of cols c % along cols ≡ c % cols / 16
  unfolding block_of
  block_col = col_of (along cols) (c / cols / 16) (c % cols / 16) (along_over cols (c % cols) (cell_there rows cols c h).col_under)

-- ---- a fit grid has at most 4,148 blocks

-- x + 1 by y + 1 blocks hold more than 16 x by 16 y cells
corner : (x y : ℕ) → (16 * y + 1) * (16 * x + 1) ≡ 256 * (y * x) + 16 * x + 16 * y + 1
corner x y = rw (add-mul, mul-add, mul_assoc 16 y (16 * x), ← mul_assoc y 16 x, mul_comm y 16, mul_assoc 16 y x) (omega arith)

both : (x y : ℕ) → suc y * suc x ≡ y * x + x + y + 1
both x y = rw (suc-mul, mul-suc) (omega arith)

-- of two numbers of blocks the second is at most 17, or both are more
shifted : (p q : ℕ) → (17 + q) * (17 + p) ≡ q * p + 17 * p + 17 * q + 289
shifted p q = rw (add-mul, mul-add) (omega arith)

narrow : (x y : ℕ) → x ≤ 16 → y ≤ 250 → 256 * (y * x) + 16 * x + 16 * y + 1 ≤ 1002001 → y * x + x + y + 1 ≤ 4148
narrow x y h k m = go (dec_lt x 16)
  where
    go : Dec (x < 16) → y * x + x + y + 1 ≤ 4148
    go (yes l) = let u : y * x ≤ y * 15 = mul-le-mul_left y (omega arith) in omega arith
    go (no l) =
        let e : x ≡ 16 = omega arith in
        let u : y * x ≡ y * 16 = ap (λ (z : ℕ). y * z) e in
        omega arith

few : (x y : ℕ) → x ≤ 250 → y ≤ 250 → 256 * (y * x) + 16 * x + 16 * y + 1 ≤ 1002001 → y * x + x + y + 1 ≤ 4148
few x y h k m = go (dec_lt x 17) (dec_lt y 17)
  where
    go : Dec (x < 17) → Dec (y < 17) → y * x + x + y + 1 ≤ 4148
    go (yes l) d = narrow x y (omega arith) k m
    go (no l) (yes d) =
        let u = mul_comm y x in
        let v : 256 * (x * y) + 16 * y + 16 * x + 1 ≤ 1002001 = omega arith in
        let w = narrow y x (omega arith) h v in
        omega arith
    go (no l) (no d) =
        let p = x - 17 in
        let q = y - 17 in
        let a : 17 + p ≡ x = omega arith in
        let b : 17 + q ≡ y = omega arith in
        let u : y * x ≡ q * p + 17 * p + 17 * q + 289 = rw (a, b) at (shifted p q) in
        omega arith

few_along : (c r : ℕ) → c ≤ 4004 → r ≤ 4004 → r * c ≤ 1002001 → along r * along c ≤ 4148
unfolding along
few_along c r wide high cells = go ((c + 15) / 16) ((r + 15) / 16) (omega arith) (omega arith) (omega arith) (omega arith)
  where
    go : (a b : ℕ) → 16 * a ≤ c + 15 → 16 * b ≤ r + 15 → a ≤ 251 → b ≤ 251 → b * a ≤ 4148
    go zero b h k m n = let e : b * 0 ≡ 0 = omega arith in omega arith
    go (suc x) zero h k m n = omega arith
    go (suc x) (suc y) h k m n =
        let p : (16 * y + 1) * (16 * x + 1) ≤ r * (16 * x + 1) = mul-le-mul_right (16 * x + 1) (omega arith) in
        let q : r * (16 * x + 1) ≤ r * c = mul-le-mul_left r (omega arith) in
        let e = corner x y in
        let f = few x y (omega arith) (omega arith) (omega arith) in
        rw (both x y) (omega arith)

-- A FIT GRID HAS AT MOST 4,148 BLOCKS
pub few_blocks : (g : Grid) → fit g ≡ true → blocks g ≤ 4148
unfolding blocks
few_blocks g h = let s = (fit_says g h).counts in few_along g.cols g.rows s.wide s.high s.cells
