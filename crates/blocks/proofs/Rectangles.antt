-- The numbers of a rectangle of blocks, added up row by row.
--   added-..     what some blocks more add, in the rectangle or outside of it
--   Along        the loop over a row of blocks, `Upward` the loop over the rows
-- Assumes nothing.
use mathlib.Core.Path.{◌≡◌, refl, sym, ap, ap₂, ◌∙◌}
use mathlib.Core.Bool.{Bool, true, false, cond, ◌&&◌}
use mathlib.Core.List.{List}
use Prim.Native.Nat.{ℕ, zero, suc, ◌+◌, ◌-◌, ◌*◌, ◌/◌, ◌%◌, ◌≤◌, ◌<◌, ◌^◌}
use native.Mathlib.Nat.{mul-le-mul_right, add-mul, div-lt_iff_lt-mul, le-div_iff_mul-le}
use native.Mathlib.Numerals.{add-one}
use native.Mathlib.Decide.{dec_lt}
use native.Mathlib.Omega.{arith}
use borrow.Author.Tests.{le-leb, lt-leb}
use lib.Dec.{leb}
use lib.ListN.{get_or}
use Rattle.grid.proofs.Shapes.{cell_inside}
use Rattle.grid.proofs.Bools.{and_off, and_both}
use Rattle.tables.specs.Lists.{sum}
use Rattle.tables.proofs.Laws.{sum_mono}
use Rattle.blocks.specs.declared.Block.{Block}
use Rattle.blocks.specs.Query.{within, inside, added_below}
use Rattle.blocks.specs.Inside.{BlocksAsk, run_below, BlockPartAsks, BlockPartIs}
use Rattle.blocks.proofs.Places.{row_of_lem, col_of}

-- ---- tests

pub off_left : (a b : Bool) → a ≡ false → (a && b) ≡ false
off_left a b h = rw h

pub within_under : (low high n : ℕ) → n < low → within low high n ≡ false
within_under low high n l = off_left (leb low n) (leb n high) (lt-leb low n l)

pub within_over : (low high n : ℕ) → high < n → within low high n ≡ false
within_over low high n l = and_off (leb low n) (leb n high) (lt-leb n high l)

pub within_has : (low high n : ℕ) → low ≤ n → n ≤ high → within low high n ≡ true
within_has low high n a b = and_both (leb low n) (leb n high) (le-leb low n a) (le-leb n high b)

-- ---- running sums

run_suc : (s : List ℕ) (n : ℕ) → run_below s (suc n) ≡ run_below s n + get_or s n 0
unfolding run_below sum
run_suc s n = refl

run_mono : (s : List ℕ) (a b : ℕ) → a ≤ b → run_below s a ≤ run_below s b
unfolding run_below
run_mono s a b h = sum_mono (λ k. get_or s k 0) a b h

-- ---- a part of a row

pub record Along (s : List ℕ) (from below so_far block sum : ℕ) : Type 0 where
  pub asks : BlockPartAsks s from below so_far
  pub at_least : from ≤ block
  pub at_most : from < block → block ≤ below
  pub is : sum + run_below s from ≡ so_far + run_below s block
  pub small : sum ≤ so_far + (block - from) * 4294967295

pub along_none : (s : List ℕ) (from below so_far : ℕ) → BlockPartAsks s from below so_far → Along s from below so_far from so_far
along_none s from below so_far h = record { asks = h; at_least = omega arith; at_most = λ l. absurd (omega arith); is = refl; small = omega arith }

module _ {s : List ℕ} {from below so_far block sum : ℕ} (h : Along s from below so_far block sum) where
  -- THE SUM CANNOT OVERFLOW, whatever 32 bit numbers the summary holds
  pub along_fits : block < below → get_or s block 0 < 2 ^ 32 → sum + get_or s block 0 < 2 ^ 64
  along_fits l f = omega (arith, h.small, h.asks.small, h.asks.few, h.at_least)

  pub along_more : block < below → get_or s block 0 < 2 ^ 32 → Along s from below so_far (block + 1) (sum + get_or s block 0)
  along_more l f =
      record {
        asks = h.asks;
        at_least = omega (arith, h.at_least);
        at_most = λ m. omega arith;
        is = rw (add-one block, run_suc s block) (omega (arith, h.is));
        small = omega (arith, h.small, h.at_least);
      }

  pub along_done : below ≤ block → BlockPartIs s from below so_far sum
  along_done l = go (dec_lt from block)
    where
      go : Dec (from < block) → BlockPartIs s from below so_far sum
      go (yes m) =
          let e : block ≡ below = omega (arith, h.at_most m) in
          let u = run_mono s from below (omega arith) in
          let v = rw e at h.is in
          let w = rw e at h.small in
          record { is = omega arith; small = w }
      go (no m) =
          let e : block ≡ from = omega (arith, h.at_least) in
          let u = run_mono s below from (omega arith) in
          let v = rw e at h.is in
          record { is = omega arith; small = omega (arith, h.small) }

-- ---- the rectangle

module _ (width : ℕ) (s : List ℕ) (low high : Block) where
  abbrev here : ℕ → Bool
  here b = inside low high (b / width) (b % width)

  abbrev added : ℕ → ℕ
  added = added_below width s low high

  added_none : added 0 ≡ 0
  unfolding added_below sum
  added_none = refl

  added_suc : (n : ℕ) → added (suc n) ≡ added n + cond (here n) (get_or s n 0) 0
  unfolding added_below sum
  added_suc n = refl

  -- blocks outside of the rectangle
  added_out : (n d : ℕ) → ((b : ℕ) → n ≤ b → b < n + d → here b ≡ false) → added (n + d) ≡ added n
  added_out n zero h = let e : n + 0 ≡ n = omega arith in rw e
  added_out n (suc d) h =
      let e : n + suc d ≡ suc (n + d) = omega arith in
      let ih = added_out n d (λ b p q. h b p (omega arith)) in
      rw (e, added_suc (n + d), h (n + d) (omega arith) (omega arith)) (omega arith)

  -- blocks of the rectangle
  added_in : (n d : ℕ) → ((b : ℕ) → n ≤ b → b < n + d → here b ≡ true) → added (n + d) + run_below s n ≡ added n + run_below s (n + d)
  added_in n zero h = let e : n + 0 ≡ n = omega arith in rw e
  added_in n (suc d) h =
      let e : n + suc d ≡ suc (n + d) = omega arith in
      let ih = added_in n d (λ b p q. h b p (omega arith)) in
      rw (e, added_suc (n + d), run_suc s (n + d), h (n + d) (omega arith) (omega arith)) (omega arith)

  -- up to a place further on
  out_to : (n m : ℕ) → n ≤ m → ((b : ℕ) → n ≤ b → b < m → here b ≡ false) → added m ≡ added n
  out_to n m l h = let e : n + (m - n) ≡ m = omega arith in rw e at (added_out n (m - n) (λ b p q. h b p (omega arith)))

  in_to : (n m : ℕ) → n ≤ m → ((b : ℕ) → n ≤ b → b < m → here b ≡ true) → added m + run_below s n ≡ added n + run_below s m
  in_to n m l h = let e : n + (m - n) ≡ m = omega arith in rw e at (added_in n (m - n) (λ b p q. h b p (omega arith)))

  -- a block of the row
  here_is : (row b : ℕ) → row * width ≤ b → b < row * width + width → here b ≡ inside low high row (b - row * width)
  here_is row b l m =
      let x = b - row * width in
      let k : x < width = omega arith in
      let e : row * width + x ≡ b = omega arith in
      ap here (sym e) ∙ ap₂ (inside low high) (row_of_lem width row x k) (col_of width row x k)

  module _ (row : ℕ) where
    abbrev start : ℕ
    start = row * width

    -- the blocks of a row that is between those of the corners
    row_added : low.row ≤ row → row ≤ high.row → low.col < width → high.col < width
        → added (start + width) ≡ added start + (run_below s (start + high.col + 1) - run_below s (start + low.col))
    row_added a b l m = go (dec_lt high.col low.col)
      where
        rows_in : within low.row high.row row ≡ true
        rows_in = within_has low.row high.row row a b

        under : (k : ℕ) → start ≤ k → k < start + low.col → here k ≡ false
        under k p q = here_is row k p (omega arith) ∙ and_off (within low.row high.row row) (within low.col high.col (k - start)) (within_under low.col high.col (k - start) (omega arith))

        over : (k : ℕ) → start + high.col + 1 ≤ k → k < start + width → here k ≡ false
        over k p q = here_is row k (omega arith) q ∙ and_off (within low.row high.row row) (within low.col high.col (k - start)) (within_over low.col high.col (k - start) (omega arith))

        among : (k : ℕ) → start + low.col ≤ k → k < start + high.col + 1 → here k ≡ true
        among k p q =
            here_is row k (omega arith) (omega arith)
            ∙ and_both (within low.row high.row row) (within low.col high.col (k - start)) rows_in (within_has low.col high.col (k - start) (omega arith) (omega arith))

        go : Dec (high.col < low.col) → added (start + width) ≡ added start + (run_below s (start + high.col + 1) - run_below s (start + low.col))
        go (yes d) =
            let u = out_to start (start + low.col) (omega arith) under in
            let v = out_to (start + low.col) (start + width) (omega arith) (λ k p q. over k (omega arith) q) in
            let w = run_mono s (start + high.col + 1) (start + low.col) (omega arith) in
            omega arith
        go (no d) =
            let u = out_to start (start + low.col) (omega arith) under in
            let t = in_to (start + low.col) (start + high.col + 1) (omega arith) among in
            let v = out_to (start + high.col + 1) (start + width) (omega arith) over in
            let w = run_mono s (start + low.col) (start + high.col + 1) (omega arith) in
            omega arith

  -- ---- the loop over the rows: those below `row` are added

  rows_under : (b : ℕ) → 0 < width → b < low.row * width → here b ≡ false
  rows_under b w l = off_left _ _ (within_under low.row high.row (b / width) ((div-lt_iff_lt-mul w).1 l))

  rows_over : (row b : ℕ) → 0 < width → high.row < row → row * width ≤ b → here b ≡ false
  rows_over row b w m l = off_left _ _ (within_over low.row high.row (b / width) (let u : row ≤ b / width = (le-div_iff_mul-le w).1 l in omega arith))

pub record Upward (width : ℕ) (s : List ℕ) (low high : Block) (row sum : ℕ) : Type 0 where
  pub height : ℕ
  pub asks : BlocksAsk width height s low high
  pub at_least : low.row ≤ row
  pub at_most : low.row < row → row ≤ high.row + 1
  pub so_far : sum ≡ added_below width s low high (row * width)
  pub small : sum ≤ row * width * 4294967295

pub upward_none : {width height : ℕ} {s : List ℕ} {low high : Block} → BlocksAsk width height s low high → Upward width s low high low.row 0
upward_none {width} {height} {s} {low} {high} h =
    record {
      height = height;
      asks = h;
      at_least = omega arith;
      at_most = λ l. absurd (omega arith);
      so_far = sym (out_to width s low high 0 (low.row * width) (omega arith) (λ b p q. rows_under width s low high b (omega (arith, h.«low-col»)) q) ∙ added_none width s low high);
      small = omega arith;
    }

module _ {width : ℕ} {s : List ℕ} {low high : Block} {row sum : ℕ} (h : Upward width s low high row sum) where
  -- the last block of the row is there
  pub row_there : row ≤ high.row → row * width + high.col < 4148
  row_there l =
      let u = cell_inside h.height width row high.col (omega (arith, h.asks.«high-row»)) h.asks.«high-col» in
      omega (arith, h.asks.few)

  pub row_begun : row ≤ high.row → row * width + low.col < 4148
  row_begun l =
      let u = cell_inside h.height width row low.col (omega (arith, h.asks.«high-row»)) h.asks.«low-col» in
      omega (arith, h.asks.few)

  pub upward_asks : row ≤ high.row → BlockPartAsks s (row * width + low.col) (row * width + high.col + 1) sum
  upward_asks l =
      let u = cell_inside h.height width row high.col (omega (arith, h.asks.«high-row»)) h.asks.«high-col» in
      record { room = omega (arith, h.asks.room); few = omega (arith, h.asks.few); small = omega (arith, h.small) }

  pub upward_more : row ≤ high.row → (r : ℕ) → BlockPartIs s (row * width + low.col) (row * width + high.col + 1) sum r → Upward width s low high (row + 1) r
  upward_more l r p =
      let e : (row + 1) * width ≡ row * width + width = rw (add-mul row 1 width) (omega arith) in
      record {
        height = h.height;
        asks = h.asks;
        at_least = omega (arith, h.at_least);
        at_most = λ m. omega arith;
        so_far = rw e (p.is ∙ ap (λ (n : ℕ). n + (run_below s (row * width + high.col + 1) - run_below s (row * width + low.col))) h.so_far
            ∙ sym (row_added width s low high row h.at_least l h.asks.«low-col» h.asks.«high-col»));
        small = rw e (omega (arith, p.small, h.small, h.asks.«high-col»));
      }

  pub upward_done : (height w : ℕ) → width ≡ w → BlocksAsk w height s low high → high.row < row → sum ≡ added_below w s low high (height * w)
  upward_done height w e a l =
      rw e at h.so_far
      ∙ sym (out_to w s low high (row * w) (height * w) (mul-le-mul_right w (top (dec_lt low.row row))) (λ b p q. rows_over w s low high row b (omega (arith, a.«low-col»)) l p))
    where
      top : Dec (low.row < row) → row ≤ height
      top (yes m) = omega (arith, h.at_most m, a.«high-row»)
      top (no m) = omega (arith, a.«low-row»)
