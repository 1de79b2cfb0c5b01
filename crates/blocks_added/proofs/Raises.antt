-- The blocks of the cells that list a line: the loop, and the block of a cell. Assumes nothing.
use mathlib.Core.Path.{◌≡◌, refl, sym, ◌∙◌}
use mathlib.Core.Bool.{Bool, true, false, cond}
use mathlib.Core.List.{List}
use Prim.Native.Nat.{ℕ, zero, suc, ◌+◌, ◌*◌, ◌/◌, ◌%◌, ◌≤◌, ◌<◌, ◌^◌}
use native.Mathlib.Nat.{div-le_self, mod-le, mul-le-mul_left}
use native.Mathlib.Numerals.{add-one}
use native.Mathlib.Decide.{ℕ_discrete}
use native.Mathlib.Omega.{arith}
use borrow.Author.Tests.{eq-eqb, ne_eqb}
use lib.Dec.{eqb}
use lib.ListN.{length, get_or, set, length-set}
use lib.Seq.{get_or-set_same, get_or-set_other}
use Rattle.tables.specs.Lists.{sum}
use Rattle.blocks.specs.Blocks.{block_of}
use Rattle.blocks_added.specs.Inside.{among_below, RaiseAsks, Raised}

-- ---- the block of a cell, in 64 bits

pub row_small : (cols cell : ℕ) → cell < 2 ^ 32 → cell / cols / 16 ≤ 268435456
row_small cols cell h = let u = div-le_self cell cols in omega arith

pub col_small : (cols cell : ℕ) → cell < 2 ^ 32 → cell % cols / 16 ≤ 268435456
col_small cols cell h = let u = mod-le cell cols in omega arith

pub place_small : (a b : ℕ) → a ≤ 268435456 → b ≤ 268435456 → a * b ≤ 72057594037927936
place_small a b h k = let u : a * b ≤ a * 268435456 = mul-le-mul_left a k in omega arith

-- ---- the loop

among_none : (cols : ℕ) (cells : List ℕ) (b : ℕ) → among_below cols cells 0 b ≡ 0
unfolding among_below sum
among_none cols cells b = refl

among_suc : (cols : ℕ) (cells : List ℕ) (n b : ℕ) → among_below cols cells (suc n) b ≡ among_below cols cells n b + cond (eqb (block_of cols (get_or cells n 0)) b) 1 0
unfolding among_below sum
among_suc cols cells n b = refl

among_few : (cols : ℕ) (cells : List ℕ) (n b : ℕ) → among_below cols cells n b ≤ n
among_few cols cells zero b = omega (arith, among_none cols cells b)
among_few cols cells (suc n) b = rw (among_suc cols cells n b) (go (eqb (block_of cols (get_or cells n 0)) b) (among_few cols cells n b))
  where
    go : (t : Bool) → among_below cols cells n b ≤ n → among_below cols cells n b + cond t 1 0 ≤ suc n
    go true h = omega arith
    go false h = omega arith

-- the first k cells are added
pub record Raising (cols : ℕ) (cells was summary : List ℕ) (k : ℕ) : Type 0 where
  pub asks : RaiseAsks cols cells was
  pub len : length summary ≡ length was
  pub at_most : k ≤ length cells
  pub at : (b : ℕ) → get_or summary b 0 ≡ get_or was b 0 + among_below cols cells k b

pub raising_none : {cols : ℕ} {cells s : List ℕ} → RaiseAsks cols cells s → Raising cols cells s s 0
raising_none {cols} {cells} h = record { asks = h; len = refl; at_most = omega arith; at = λ b. omega (arith, among_none cols cells b) }

module _ {cols : ℕ} {cells was summary : List ℕ} {k : ℕ} (h : Raising cols cells was summary k) where
  module _ (l : k < length cells) {block : ℕ} (e : block ≡ block_of cols (get_or cells k 0)) where
    pub block_in : block < length summary
    block_in = omega (arith, h.asks.inside k l, h.asks.room, h.len)

    pub block_fits : get_or summary block 0 + 1 < 2 ^ 32
    block_fits =
        let u = h.asks.inside k l in
        let v = h.asks.small block (omega arith) in
        omega (arith, h.at block, among_few cols cells k block)

    pub raising_more : Raising cols cells was (set summary block (get_or summary block 0 + 1)) (k + 1)
    raising_more =
        record {
          asks = h.asks;
          len = simp length-set h.len;
          at_most = omega arith;
          at = λ b. rw (add-one k, among_suc cols cells k b) (go b (ℕ_discrete b block));
        }
      where
        go : (b : ℕ) → Dec (b ≡ block) → get_or (set summary block (get_or summary block 0 + 1)) b 0 ≡ get_or was b 0 + (among_below cols cells k b + cond (eqb (block_of cols (get_or cells k 0)) b) 1 0)
        go b (yes d) =
            rw (d, get_or-set_same summary block (get_or summary block 0 + 1) 0 block_in, eq-eqb (block_of cols (get_or cells k 0)) block (sym e)) (omega (arith, h.at block))
        go b (no d) =
            rw (get_or-set_other summary block b (get_or summary block 0 + 1) 0 d, ne_eqb (block_of cols (get_or cells k 0)) b (λ f. d (sym f ∙ sym e))) (omega (arith, h.at b))

  pub raising_done : length cells ≤ k → Raised cols cells was summary
  raising_done l = let e : k ≡ length cells = omega (arith, h.at_most) in record { len = h.len; at = λ b. rw (← e) (h.at b) }
