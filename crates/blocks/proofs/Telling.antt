-- What the offsets say of the cells below a place, as cells are added.
--   said-..      of some cells more, in one block or outside of it
--   Across       the loop over a row, `Downward` the loop over the rows
-- Assumes nothing.
use mathlib.Core.Path.{◌≡◌, refl, sym, ap, ◌∙◌}
use mathlib.Core.Bool.{Bool, true, false, cond}
use mathlib.Core.List.{List}
use Prim.Native.Nat.{ℕ, zero, suc, min, ◌+◌, ◌-◌, ◌*◌, ◌/◌, ◌≤◌, ◌<◌}
use native.Mathlib.Nat.{min-eq_left, min-eq_right, mul-le-mul_right, add-mul}
use native.Mathlib.Decide.{dec_lt, ℕ_discrete}
use native.Mathlib.Omega.{arith}
use borrow.Author.Tests.{eq-eqb, ne_eqb}
use lib.Dec.{eqb}
use lib.ListN.{length, get_or, set, replicate, length-set}
use lib.Seq.{get_or-set_same, get_or-set_other}
use Rattle.tables.specs.Lists.{sum}
use Rattle.blocks.specs.Blocks.{along, block_of, told, said_below}
use Rattle.blocks.specs.Inside.{Fills, Told, BlockRow, BlocksFilled}
use Rattle.blocks.proofs.Places.{block_at, block_under, block_there, along_over}

module _ (cols : ℕ) (offsets : List ℕ) where
  abbrev offset : ℕ → ℕ
  offset c = get_or offsets c 0

  -- offsets never fall over d cells from n on
  abbrev Rise : ℕ → ℕ → Type 0
  Rise n d = (c : ℕ) → n ≤ c → c < n + d → offset c ≤ offset (suc c)

  rise : (n d : ℕ) → Rise n d → offset n ≤ offset (n + d)
  rise n zero h = let e : n + 0 ≡ n = omega arith in rw e (omega arith)
  rise n (suc d) h =
      let e : n + suc d ≡ suc (n + d) = omega arith in
      rw e (let u = rise n d (λ c a b. h c a (omega arith)) in let v = h (n + d) (omega arith) (omega arith) in omega arith)

  said_none : (b : ℕ) → said_below cols offsets 0 b ≡ 0
  unfolding said_below sum
  said_none b = refl

  said_suc : (n b : ℕ) → said_below cols offsets (suc n) b ≡ said_below cols offsets n b + cond (eqb (block_of cols n) b) (told offsets n) 0
  unfolding said_below sum
  said_suc n b = refl

  -- cells of the block b: one difference of two offsets
  said_in : (b n d : ℕ) → ((c : ℕ) → n ≤ c → c < n + d → block_of cols c ≡ b) → Rise n d
      → said_below cols offsets (n + d) b ≡ said_below cols offsets n b + (offset (n + d) - offset n)
  said_in b n zero h r = let e : n + 0 ≡ n = omega arith in rw e (omega arith)
  said_in b n (suc d) h r =
      let e : n + suc d ≡ suc (n + d) = omega arith in
      let below : Rise n d = λ c a b. r c a (omega arith) in
      let ih = said_in b n d (λ c p q. h c p (omega arith)) below in
      let u = rise n d below in
      let v = r (n + d) (omega arith) (omega arith) in
      rw (e, said_suc (n + d) b, eq-eqb (block_of cols (n + d)) b (h (n + d) (omega arith) (omega arith))) (omega arith)

  -- cells of other blocks
  said_out : (b n d : ℕ) → ((c : ℕ) → n ≤ c → c < n + d → block_of cols c ≡ b → ⊥) → said_below cols offsets (n + d) b ≡ said_below cols offsets n b
  said_out b n zero h = let e : n + 0 ≡ n = omega arith in rw e
  said_out b n (suc d) h =
      let e : n + suc d ≡ suc (n + d) = omega arith in
      let ih = said_out b n d (λ c p q. h c p (omega arith)) in
      rw (e, said_suc (n + d) b, ne_eqb (block_of cols (n + d)) b (h (n + d) (omega arith) (omega arith))) (omega arith)

  -- no block has more items than there are below n
  pub said_most : (b n : ℕ) → Rise 0 n → said_below cols offsets n b + offset 0 ≤ offset n
  said_most b zero r = omega (arith, said_none b)
  said_most b (suc n) r =
      let ih = said_most b n (λ c p q. r c p (omega arith)) in
      let v = r n (omega arith) (omega arith) in
      rw (said_suc n b) (go (eqb (block_of cols n) b) ih v)
    where
      go : (t : Bool) → said_below cols offsets n b + offset 0 ≤ offset n → offset n ≤ offset (suc n)
          → said_below cols offsets n b + cond t (told offsets n) 0 + offset 0 ≤ offset (suc n)
      go true i v = omega arith
      go false i v = omega arith

  pub told_none : (len : ℕ) → Told cols offsets 0 (replicate {A = ℕ} len 0)
  told_none len = record { at = λ b. zeros len b ∙ sym (said_none b) }
    where
      zeros : (n k : ℕ) → get_or (replicate {A = ℕ} n 0) k 0 ≡ 0
      zeros zero k = refl
      zeros (suc n) zero = refl
      zeros (suc n) (suc k) = zeros n k

  -- the cells of one block are added to its number
  pub told_more : (b n d : ℕ) (s : List ℕ) → ((c : ℕ) → n ≤ c → c < n + d → block_of cols c ≡ b) → Rise n d → b < length s → Told cols offsets n s
      → Told cols offsets (n + d) (set s b (get_or s b 0 + (offset (n + d) - offset n)))
  told_more b n d s h r l t = record { at = λ k. go k (ℕ_discrete k b) }
    where
      go : (k : ℕ) → Dec (k ≡ b) → get_or (set s b (get_or s b 0 + (offset (n + d) - offset n))) k 0 ≡ said_below cols offsets (n + d) k
      go k (yes e) = rw e (get_or-set_same s b (get_or s b 0 + (offset (n + d) - offset n)) 0 l ∙ ap (λ (m : ℕ). m + (offset (n + d) - offset n)) (t.at b) ∙ sym (said_in b n d h r))
      go k (no e) =
          get_or-set_other s b k (get_or s b 0 + (offset (n + d) - offset n)) 0 e
          ∙ t.at k
          ∙ sym (said_out k n d (λ c p q f. e (sym f ∙ h c p q)))

-- beyond the blocks there is nothing
pub said_beyond : (cols rows : ℕ) (offsets : List ℕ) (b : ℕ) → along rows * along cols ≤ b → said_below cols offsets (rows * cols) b ≡ 0
said_beyond cols rows offsets b l =
    let e : 0 + rows * cols ≡ rows * cols = omega arith in
    rw e at (said_out cols offsets b 0 (rows * cols) (λ c p q e. let u = block_there rows cols c (omega arith) in omega arith))
    ∙ said_none cols offsets b

-- ---- the loop over a row: the cells before x are added

pub record Across (cols : ℕ) (offsets : List ℕ) (at first : ℕ) (was summary : List ℕ) (x block : ℕ) : Type 0 where
  pub begun : BlockRow cols offsets at first was
  pub len : length summary ≡ length was
  pub at_most : x ≤ cols
  pub passed : ℕ
  pub block_is : block ≡ first + passed
  pub here : x < cols → x ≡ 16 * passed
  pub told : Told cols offsets (at + x) summary

pub across_none : (cols : ℕ) (offsets : List ℕ) (at first : ℕ) (s : List ℕ) → BlockRow cols offsets at first s → Across cols offsets at first s s 0 first
across_none cols offsets at first s h =
    let e : at + 0 ≡ at = omega arith in
    record {
      begun = h;
      len = refl;
      at_most = omega arith;
      passed = 0;
      block_is = omega arith;
      here = λ l. omega arith;
      told = rw e h.told;
    }

-- the part of the row that is in one block: 16 cells on, or to the row's end
pub record Part (cols x to : ℕ) : Type 0 where
  pub at_most : to ≤ cols
  pub over : x < to
  pub short : to ≤ x + 16
  pub whole : to < cols → to ≡ x + 16

pub part_says : (cols x to : ℕ) → x < cols → to ≡ min cols (x + 16) → Part cols x to
part_says cols x to l e = go (dec_lt cols (x + 16))
  where
    go : Dec (cols < x + 16) → Part cols x to
    go (yes h) =
        let f : to ≡ cols = e ∙ min-eq_left (omega arith) in
        record { at_most = omega arith; over = omega arith; short = omega arith; whole = λ m. absurd (omega arith) }
    go (no h) =
        let f : to ≡ x + 16 = e ∙ min-eq_right (omega arith) in
        record { at_most = omega arith; over = omega arith; short = omega arith; whole = λ m. f }

module _ {cols : ℕ} {offsets : List ℕ} {at first : ℕ} {was summary : List ℕ} {x block : ℕ} (h : Across cols offsets at first was summary x block) (l : x < cols) where
  -- the row is there
  pub row_end : at + cols ≤ h.begun.rows * cols
  row_end =
      let b = h.begun in
      let m : suc b.row * cols ≤ b.rows * cols = mul-le-mul_right cols b.under in
      omega (arith, b.cell_is)

  pub next_few : x + 16 ≤ 1002017
  next_few = omega (arith, row_end, h.begun.fills.few)

  pub block_in : block < length summary
  block_in =
      let b = h.begun in
      let e : x / 16 ≡ h.passed = let u = h.here l in omega arith in
      let m = block_under b.rows cols b.row x b.under l in
      omega (arith, b.block_is, b.fills.room, h.block_is, h.len, e)

  module _ {to : ℕ} (p : Part cols x to) where
    pub cell_in : at + to < length offsets
    cell_in = omega (arith, row_end, p.at_most, h.begun.fills.long)

    pub cell_few : at + to ≤ 1002001
    cell_few = omega (arith, row_end, p.at_most, h.begun.fills.few)

    here_is : at + x + (to - x) ≡ at + to
    here_is = omega (arith, p.over)

    in_block_lem : (c : ℕ) → at + x ≤ c → c < at + x + (to - x) → block_of cols c ≡ block
    in_block_lem c a b =
        let r = h.begun in
        let y = c - at in
        let u = h.here l in
        let e : c ≡ r.row * cols + y = omega (arith, r.cell_is) in
        let f : y / 16 ≡ h.passed = omega (arith, p.short, p.over) in
        ap (block_of cols) e
        ∙ block_at cols r.row y (omega (arith, p.at_most, p.over))
        ∙ omega (arith, r.block_is, h.block_is, f)

    never_fall : Rise cols offsets (at + x) (to - x)
    never_fall c a b = h.begun.fills.rises c (omega (arith, row_end, p.at_most, p.over))

    pub part_rises : get_or offsets (at + x) 0 ≤ get_or offsets (at + to) 0
    part_rises = rw here_is at (rise cols offsets (at + x) (to - x) never_fall)

    -- what the number becomes is no more than an offset, so it fits 32 bits
    pub part_small : get_or summary block 0 + (get_or offsets (at + to) 0 - get_or offsets (at + x) 0) ≤ get_or offsets (at + to) 0
    part_small =
        let u = rw here_is at (said_in cols offsets block (at + x) (to - x) in_block_lem never_fall) in
        let v = said_most cols offsets block (at + to) (λ c a b. h.begun.fills.rises c (omega (arith, row_end, p.at_most))) in
        omega (arith, h.told.at block)

    pub across_more : Across cols offsets at first was (set summary block (get_or summary block 0 + (get_or offsets (at + to) 0 - get_or offsets (at + x) 0))) to (block + 1)
    across_more =
        record {
          begun = h.begun;
          len = simp length-set h.len;
          at_most = p.at_most;
          passed = h.passed + 1;
          block_is = omega (arith, h.block_is);
          here = λ m. omega (arith, h.here l, p.whole m);
          told = rw here_is at (told_more cols offsets block (at + x) (to - x) summary in_block_lem never_fall block_in h.told);
        }

module _ {cols : ℕ} {offsets : List ℕ} {at first : ℕ} {was summary : List ℕ} {x block : ℕ} (h : Across cols offsets at first was summary x block) where
  pub across_done : cols ≤ x → BlocksFilled cols offsets (at + cols) was summary
  across_done l =
      let e : at + x ≡ at + cols = omega (arith, h.at_most) in
      record { len = h.len; told = rw e at h.told }

-- ---- the loop over the rows: the rows before `row` are added

pub record Downward (cols rows : ℕ) (offsets was summary : List ℕ) (row : ℕ) : Type 0 where
  pub fills : Fills cols rows offsets was
  pub len : length summary ≡ length was
  pub at_most : row ≤ rows
  pub told : Told cols offsets (row * cols) summary

pub downward_none : {cols rows : ℕ} {offsets s : List ℕ} → Fills cols rows offsets s → Told cols offsets 0 s → Downward cols rows offsets s s 0
downward_none {cols} f t =
    let e : 0 * cols ≡ 0 = omega arith in
    record { fills = f; len = refl; at_most = omega arith; told = rw e t }

module _ {cols rows : ℕ} {offsets was summary : List ℕ} {row : ℕ} (h : Downward cols rows offsets was summary row) where
  pub row_asks : row < rows → {at first : ℕ} → at ≡ row * cols → first ≡ row / 16 * along cols → BlockRow cols offsets at first summary
  row_asks l e f =
      record {
        rows = rows;
        row = row;
        under = l;
        cell_is = e;
        block_is = f;
        fills = record { rises = h.fills.rises; long = h.fills.long; few = h.fills.few; room = rw h.len h.fills.room };
        told = rw e h.told;
      }

  pub row_few : row < rows → row * cols ≤ 1002001
  row_few l = let m : row * cols ≤ rows * cols = mul-le-mul_right cols (omega arith) in omega (arith, h.fills.few)

  pub block_few : row < rows → row / 16 * along cols ≤ length was
  block_few l =
      let m : row / 16 * along cols ≤ along rows * along cols = mul-le-mul_right (along cols) (let u = along_over rows row l in omega arith) in
      omega (arith, h.fills.room)

  pub downward_more : row < rows → {at : ℕ} → at ≡ row * cols → {now : List ℕ} → BlocksFilled cols offsets (at + cols) summary now → Downward cols rows offsets was now (row + 1)
  downward_more l {at} e {now} f =
      let u : at + cols ≡ (row + 1) * cols = rw (add-mul row 1 cols) (omega arith) in
      record { fills = h.fills; len = f.len ∙ h.len; at_most = omega arith; told = rw u at f.told }

  pub downward_done : rows ≤ row → BlocksFilled cols offsets (rows * cols) was summary
  downward_done l = let e : row ≡ rows = omega (arith, h.at_most) in record { len = h.len; told = rw e at h.told }
