-- Document 02, 12, as laws.
--     made-own                  each number of a summary that was made is what the offsets say
--     said-lists                which is the sum over the block's cells of the lengths of their lists
--     all-items, own-total      the sum over the blocks is the total of items; of the tables' own summary that is the sum of its numbers
--     own-items                 on the tables' own summary a query gives the items in the lists of the rectangle's cells
--     out_of_order              corners out of order give 0
--     one-summary               the promise settles the answer and every entry
-- That a fit grid has at most 4,148 blocks is `few_blocks` in `Places.antt`; that the sums of a query cannot overflow, `along_fits` in `Rectangles.antt`.
-- Assumes nothing.
use Rattle.std.specs.Prelude.{Ok, Err, Result}
use Rattle.refusals.specs.declared.Refusal.{Refusal}
use mathlib.Core.Path.{◌≡◌, refl, sym, ap, ap₂, ◌∙◌}
use mathlib.Core.Bool.{Bool, true, false, cond}
use mathlib.Core.Logic.{◌⊎◌, ⊎_elim}
use mathlib.Core.List.{List}
use Prim.Native.Nat.{ℕ, zero, suc, ◌+◌, ◌*◌, ◌/◌, ◌%◌, ◌≤◌, ◌<◌}
use native.Mathlib.Decide.{dec_lt, ℕ_discrete}
use native.Mathlib.Omega.{arith}
use borrow.Author.Tests.{eq-eqb, ne_eqb}
use lib.Dec.{eqb}
use lib.ListN.{length, get_or, get_or-append}
use lib.Seq.{length-slice}
use Rattle.refusals.specs.Refusals.{Answer, refused, gives, answer_by, left_in, zero_beyond}
use Rattle.refusals.proofs.Answers.{then_passed}
use Rattle.grid.specs.declared.Grid.{Grid}
use Rattle.grid.proofs.Bools.{and_off}
use Rattle.tables.specs.Tables.{Tables, tables, cells, list_of}
use Rattle.tables.specs.Fit.{TablesFit}
use Rattle.tables.specs.Lists.{sum, tabulate}
use Rattle.tables.proofs.Laws.{sum_same, length_tabulate, sum_add, get_d_tabulate, sum_zero}
use Rattle.tables.proofs.Facts.{all_within}
use Rattle.blocks.specs.declared.Block.{Block}
use Rattle.blocks.specs.Blocks.{along, blocks, block_of, told, said_below, said, block_totals, Own, make_end, make_answer, MakeIs}
use Rattle.blocks.specs.Query.{within, inside, added_below, items_in}
use Rattle.blocks.proofs.Places.{block_there, block_row, block_col}
use Rattle.blocks.proofs.Rectangles.{within_under, within_over, off_left}

-- ---- sums

-- one number alone
sum_one : (f : ℕ → ℕ) (m n : ℕ) → m < n → ((k : ℕ) → (k ≡ m → ⊥) → f k ≡ 0) → sum f n ≡ f m
unfolding sum
sum_one f m zero l h = absurd (omega arith)
sum_one f m (suc n) l h = go (λ d. sum_one f m n d h) (ℕ_discrete m n)
  where
    go : (m < n → sum f n ≡ f m) → Dec (m ≡ n) → sum f n + f n ≡ f m
    go ih (yes e) = rw (sum_zero f n (λ k b. h k (λ d. omega arith)), e) (omega arith)
    go ih (no d) = rw (ih (omega arith), h n (λ e. d (sym e))) (omega arith)

pub sum_suc : (f : ℕ → ℕ) (n : ℕ) → sum f (suc n) ≡ sum f n + f n
unfolding sum
sum_suc f n = refl

none_either : (b : Bool) → ◌≡◌ {A = ℕ} (cond b 0 0) 0
none_either true = refl
none_either false = refl

pub add_where : (b : Bool) (x y : ℕ) → cond b (x + y) 0 ≡ cond b x 0 + cond b y 0
add_where true x y = refl
add_where false x y = refl

-- Each c has a place p c below m. The sum over the places that pass a test of what is in them is the sum over all c whose places pass.
pub by_places : (test : ℕ → Bool) (p v : ℕ → ℕ) (m n : ℕ) → ((c : ℕ) → c < n → p c < m)
    → sum (λ b. cond (test b) (sum (λ c. cond (eqb (p c) b) (v c) 0) n) 0) m ≡ sum (λ c. cond (test (p c)) (v c) 0) n
unfolding sum
by_places test p v m zero h = sum_zero _ m (λ b l. none_either (test b))
by_places test p v m (suc n) h =
    sum_same _ _ m (λ b l. add_where (test b) (sum (λ c. cond (eqb (p c) b) (v c) 0) n) (cond (eqb (p n) b) (v n) 0))
    ∙ sum_add (λ b. cond (test b) (sum (λ c. cond (eqb (p c) b) (v c) 0) n) 0) (λ b. cond (test b) (cond (eqb (p n) b) (v n) 0) 0) m
    ∙ ap₂ (λ (x y : ℕ). x + y) (by_places test p v m n (λ c l. h c (omega arith)))
    (sum_one (λ b. cond (test b) (cond (eqb (p n) b) (v n) 0) 0) (p n) m (h n (omega arith))
    (λ b d. rw (ne_eqb (p n) b (λ e. d (sym e))) (none_either (test b)))
    ∙ rw (eq-eqb (p n) (p n) refl))

-- ---- what the offsets say

module _ (g : Grid) (n : ℕ) (offsets items globals : List ℕ) (found : ℕ) where
  abbrev t : Tables
  t = tables g n offsets items globals found

  module _ (fits : TablesFit (tables g n offsets items globals found)) where
    pub told_length : (c : ℕ) → c < cells t → told offsets c ≡ length (list_of t c)
    told_length c l =
        sym (length-slice (get_or offsets c 0) (get_or offsets (suc c) 0) items (all_within (cells t) n offsets items fits.lists (suc c) (omega arith)))

    -- WHAT THE OFFSETS SAY of a block: the sum over its cells of the lengths of their lists
    pub said_lists : (b : ℕ) → said g offsets b ≡ sum (λ c. cond (eqb (block_of g.cols c) b) (length (list_of t c)) 0) (cells t)
    unfolding said_below
    said_lists b = sum_same _ _ (cells t) (λ c l. ap (λ (x : ℕ). cond (eqb (block_of g.cols c) b) x 0) (told_length c l))

    all_told : (m : ℕ) → m ≤ cells t → sum (told offsets) m ≡ get_or offsets m 0
    unfolding sum
    all_told zero l = sym fits.lists.first
    all_told (suc m) l = rw (all_told m (omega arith)) (let r = fits.lists.rises m (omega arith) in omega arith)

    -- THE SUM OVER THE BLOCKS IS THE TOTAL OF ITEMS, which is the last offset
    pub all_items : sum (said g offsets) (blocks g) ≡ get_or offsets (cells t) 0
    unfolding blocks said_below
    all_items =
        by_places (λ _. true) (block_of g.cols) (told offsets) (along g.rows * along g.cols) (cells t) (block_there g.rows g.cols)
        ∙ all_told (cells t) (omega arith)

    -- ... AND SO IS THE SUM OF THE NUMBERS of the tables' own summary
    pub own_total : (s : List ℕ) → Own g offsets s → sum (λ b. get_or s b 0) (blocks g) ≡ get_or offsets (cells t) 0
    own_total s own = sum_same (λ b. get_or s b 0) (said g offsets) (blocks g) own.at ∙ all_items

    -- ON THE TABLES' OWN SUMMARY A QUERY GIVES THE ITEMS in the lists of the rectangle's cells: those whose rows and columns of blocks are in it
    pub own_items : (s : List ℕ) → Own g offsets s → (low high : Block)
        → items_in g s low high ≡ sum (λ c. cond (inside low high (c / g.cols / 16) (c % g.cols / 16)) (length (list_of t c)) 0) (cells t)
    unfolding items_in added_below blocks said_below
    own_items s own low high =
        let w = along g.cols in
        sum_same _ _ (along g.rows * w) (λ b l. ap (λ (x : ℕ). cond (inside low high (b / w) (b % w)) x 0) (own.at b l))
        ∙ by_places (λ b. inside low high (b / w) (b % w)) (block_of g.cols) (told offsets) (along g.rows * w) (cells t) (block_there g.rows g.cols)
        ∙ sum_same _ _ (cells t)
        (λ c l.
        ap₂ (λ (b : Bool) (x : ℕ). cond b x 0) (ap₂ (inside low high) (block_row g.rows g.cols c l) (block_col g.rows g.cols c l)) (told_length c l))

-- ---- a query out of order

within_none : (low high n : ℕ) → high < low → within low high n ≡ false
within_none low high n l = go (dec_lt n low)
  where
    go : Dec (n < low) → within low high n ≡ false
    go (yes h) = within_under low high n h
    go (no h) = within_over low high n (omega arith)

-- CORNERS OUT OF ORDER GIVE 0
pub out_of_order : (g : Grid) (s : List ℕ) (low high : Block) → (high.row < low.row) ⊎ (high.col < low.col) → items_in g s low high ≡ 0
unfolding items_in added_below
out_of_order g s low high h = sum_zero _ (blocks g) (λ b l. ap (λ (x : Bool). cond x (get_or s b 0) 0) (none b))
  where
    none : (b : ℕ) → inside low high (b / along g.cols) (b % along g.cols) ≡ false
    none b =
        ⊎_elim
        (λ (l : high.row < low.row). off_left (within low.row high.row (b / along g.cols)) (within low.col high.col (b % along g.cols)) (within_none low.row high.row (b / along g.cols) l))
        (λ (l : high.col < low.col). and_off (within low.row high.row (b / along g.cols)) (within low.col high.col (b % along g.cols)) (within_none low.col high.col (b % along g.cols) l))
        h

-- ---- the summary that was made

pub numbers_own : (g : Grid) (offsets : List ℕ) (len : ℕ) → Own g offsets (zero_beyond 0 len (block_totals g offsets))
unfolding zero_beyond block_totals
numbers_own g offsets len =
    record {
      at = λ b l.
          get_or-append (tabulate (said g offsets) (blocks g)) _ 0 b (omega (arith, length_tabulate (said g offsets) (blocks g)))
          ∙ get_d_tabulate (said g offsets) (blocks g) b l;
    }

module _ {g : Grid} {t : Tables} {was : List ℕ} where
  -- EACH NUMBER OF A SUMMARY THAT WAS MADE IS WHAT THE OFFSETS SAY
  pub made_own : {n : ℕ} {now : List ℕ} → MakeIs g t was (Ok n) now → Own g t.offsets now
  unfolding make_answer answer_by left_in make_end
  made_own {n} {now} h = go (make_end g t (length was)) refl
    where
      go : (a : Answer (List ℕ)) → make_end g t (length was) ≡ a → Own g t.offsets now
      go (refused r) e = let z : Ok n ≡ Err r = rw e at h.answer in absurd (let y : ◌≡◌ {A = ℕ} 0 1 = cc in omega arith)
      go (gives ns) e =
          let p = (then_passed _ _ (then_passed _ _ e).1).1 in
          let q : now ≡ zero_beyond 0 (length was) ns = rw e at h.left in
          let m : ns ≡ block_totals g t.offsets = cc in
          rw (q, m) (numbers_own g t.offsets (length was))

  -- the promise settles the answer and every entry
  pub one_summary : {r r₁ : Result ℕ Refusal} {now now₁ : List ℕ} → MakeIs g t was r now → MakeIs g t was r₁ now₁ → (r ≡ r₁) × (now ≡ now₁)
  one_summary h k = (h.answer ∙ sym k.answer, h.left ∙ sym k.left)
