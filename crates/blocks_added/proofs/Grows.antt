-- The summary of the new offsets: a block has one item more for each cell of it that lists the line. Assumes nothing.
use mathlib.Core.Path.{◌≡◌, refl, sym, ap, ◌∙◌}
use mathlib.Core.Bool.{Bool, true, false, cond, ◌||◌, true≢false}
use mathlib.Core.List.{List, [], ◌∷◌}
use Prim.Native.Nat.{ℕ, zero, suc, ◌+◌, ◌*◌, ◌≤◌, ◌<◌}
use native.Mathlib.Omega.{arith}
use borrow.Author.Tests.{eqb-true, eq-eqb, ne_eqb}
use lib.Dec.{eqb}
use lib.ListN.{length, get_or, length-append, get_or-append}
use Rattle.slices.specs.Slices.{cleared_from}
use Rattle.slices.specs.Lists.{elem, Below, Rising}
use Rattle.slices.proofs.Members.{elem_at, below_at}
use Rattle.slices.proofs.Distinct.{head_alone}
use Rattle.refusals.specs.Refusals.{zero_beyond}
use Rattle.grid.specs.declared.Grid.{Grid}
use Rattle.tables.specs.Tables.{Tables, tables, cells, list_of}
use Rattle.tables.specs.Fit.{TablesFit}
use Rattle.tables.specs.Lists.{only, long, sum, start, tabulate, offsets_of}
use Rattle.tables.proofs.Laws.{sum_same, take_tabulate, length_tabulate, sum_add, get_d_tabulate, sum_zero}
use Rattle.blocks.specs.Blocks.{along, blocks, block_of, told, said_below, said, block_totals, Own}
use Rattle.blocks.proofs.Places.{block_there}
use Rattle.blocks.proofs.Telling.{said_most}
use Rattle.blocks.proofs.Laws.{sum_suc, add_where, by_places, told_length}
use Rattle.added.specs.Added.{listing, list_with, total_with}
use Rattle.added.proofs.Laid.{totalled}
use Rattle.added.proofs.Promise.{by_listing}
use Rattle.blocks_added.specs.Beside.{offsets_with}
use Rattle.blocks_added.specs.Inside.{among_below, RaiseAsks, Raised}

-- ---- how often a cell is in a list that increases: once, or not at all

sum_front : (f : ℕ → ℕ) (n : ℕ) → sum f (suc n) ≡ f 0 + sum (λ k. f (suc k)) n
unfolding sum
sum_front f zero = omega arith
sum_front f (suc n) = rw (sum_front f n) (omega arith)

occurs : (a : ℕ) (xs : List ℕ) (c i : ℕ) → Rising a xs → sum (λ k. cond (eqb (get_or xs k 0) c) 1 0) (length xs) ≡ length (only (elem c xs) i)
unfolding sum
occurs a [] c i h = refl
occurs a (x ∷ xs) c i h = sum_front (λ k. cond (eqb (get_or (x ∷ xs) k 0) c) 1 0) (length xs) ∙ go (eqb x c) refl (occurs (suc x) xs c i h.1)
  where
    go : (b : Bool) → eqb x c ≡ b → sum (λ k. cond (eqb (get_or xs k 0) c) 1 0) (length xs) ≡ length (only (elem c xs) i)
        → cond (eqb x c) 1 0 + sum (λ k. cond (eqb (get_or xs k 0) c) 1 0) (length xs) ≡ length (only (eqb c x || elem c xs) i)
    go true e ih =
        let d = eqb-true x c e in
        let n : elem c xs ≡ false = rw d at (head_alone x xs h.1) in
        rw (e, eq-eqb c x (sym d), ih, n)
    go false e ih = rw (e, ne_eqb c x (λ d. true≢false (sym (eq-eqb x c (sym d)) ∙ e)), ih) (omega arith)

-- ---- the cells that list a line: those that it visits, or none

pub listing_rises : (xs : List ℕ) → Rising 0 xs → Rising 0 (listing xs)
listing_rises xs h = by_listing (λ z. Rising 0 z) xs tt h

pub listing_below : (n : ℕ) (xs : List ℕ) → Below n xs → Below n (listing xs)
listing_below n xs h = by_listing (λ z. Below n z) xs tt h

-- ---- the new offsets

module _ (g : Grid) (n : ℕ) (o xs gs : List ℕ) (found : ℕ) where
  abbrev t : Tables
  t = tables g n o xs gs found

  module _ (fits : TablesFit (tables g n o xs gs found)) (visited : List ℕ) (order : Rising 0 (listing visited)) (below : Below (g.rows * g.cols) (listing visited)) where
    abbrev v : List ℕ
    v = listing visited

    abbrev new : List ℕ
    new = offsets_with t visited

    offset_new : (c : ℕ) → c ≤ cells t → get_or new c 0 ≡ start (list_with t visited) c
    unfolding offsets_of
    offset_new c l =
        get_or-append (tabulate (start (list_with t visited)) (suc (cells t))) _ 0 c (omega (arith, length_tabulate (start (list_with t visited)) (suc (cells t))))
        ∙ get_d_tabulate (start (list_with t visited)) (suc (cells t)) c (omega arith)

    told_new : (c : ℕ) → c < cells t → told new c ≡ told o c + length (only (elem c v) n)
    unfolding list_with
    told_new c l =
        let a = offset_new c (omega arith) in
        let b = offset_new (suc c) (omega arith) in
        let d = sum_suc (λ c. length (list_with t visited c)) c in
        let e = length-append (list_of t c) (only (elem c v) n) in
        let f = told_length g n o xs gs found fits c l in
        omega arith

    -- A BLOCK HAS ONE ITEM MORE FOR EACH OF ITS CELLS THAT LISTS THE LINE
    pub said_new : (b : ℕ) → said g new b ≡ said g o b + among_below g.cols v (length v) b
    unfolding said_below among_below
    said_new b =
        let here : ℕ → Bool = λ c. eqb (block_of g.cols c) b in
        let times : ℕ → ℕ = λ c. sum (λ k. cond (eqb (get_or v k 0) c) 1 0) (length v) in
        sum_same _ _ (cells t)
        (λ c l. ap (λ (x : ℕ). cond (here c) x 0) (told_new c l ∙ ap (λ (x : ℕ). told o c + x) (sym (occurs 0 v c n order))) ∙ add_where (here c) (told o c) (times c))
        ∙ sum_add (λ c. cond (here c) (told o c) 0) (λ c. cond (here c) (times c) 0) (cells t)
        ∙ ap (λ (x : ℕ). sum (λ c. cond (here c) (told o c) 0) (cells t) + x)
        (by_places here (λ k. get_or v k 0) (λ _. 1) (cells t) (length v) (λ k l. below_at (cells t) v k below l))

    -- ONLY BLOCKS THAT HOLD CELLS WHICH LIST THE LINE CHANGE
    pub others_stay : (b : ℕ) → ((c : ℕ) → elem c v ≡ true → block_of g.cols c ≡ b → ⊥) → said g new b ≡ said g o b
    unfolding among_below
    others_stay b h =
        said_new b
        ∙ ap (λ (x : ℕ). said g o b + x)
        (sum_zero (λ k. cond (eqb (block_of g.cols (get_or v k 0)) b) 1 0) (length v)
        (λ k l. rw (ne_eqb (block_of g.cols (get_or v k 0)) b (h (get_or v k 0) (elem_at v k l)))))
        ∙ omega arith

    -- A GLOBAL LINE CHANGES NO BLOCK
    pub global_stays : long visited ≡ true → (b : ℕ) → said g new b ≡ said g o b
    unfolding listing
    global_stays h b = others_stay b (λ c e. let x : elem c [] ≡ true = rw h at e in absurd (true≢false (sym x)))

    -- ---- the numbers raised

    module _ (kept : List ℕ) (own : Own g o kept) (room : blocks g ≤ length kept) where
      pub raise_asks : 0 < g.cols → total_with t visited ≤ 4294967295 → RaiseAsks g.cols v kept
      unfolding blocks total_with list_with
      raise_asks some small =
          record {
            some = some;
            blocks = along g.rows * along g.cols;
            room = room;
            inside = λ k l. block_there g.rows g.cols (get_or v k 0) (below_at (cells t) v k below l);
            small = λ b l.
                let a = totalled n v o xs fits.lists order below in
                let m = said_most g.cols o b (cells t) (λ c p q. fits.lists.rises c (omega arith)) in
                omega (arith, own.at b l);
          }

      pub grown : (mid : List ℕ) → Raised g.cols v kept mid → (m : ℕ) → m ≡ blocks g → (now : List ℕ) → now ≡ cleared_from m mid → now ≡ zero_beyond 0 (length kept) (block_totals g new)
      unfolding cleared_from zero_beyond block_totals
      grown mid h m e now c =
          c
          ∙ rw (
            e,
            take_tabulate (said g new) mid (blocks g) (omega (arith, h.len)) (λ b l. h.at b ∙ ap (λ (x : ℕ). x + among_below g.cols v (length v) b) (own.at b l) ∙ sym (said_new b)),
            h.len,
            length_tabulate (said g new) (blocks g),
          )
