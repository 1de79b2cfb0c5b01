-- The loops over a short list: what is left of the rows, from where they stand, comes to the same as all of them. Assumes nothing.
use mathlib.Core.Path.{◌≡◌, refl, sym, ap, ◌∙◌}
use mathlib.Core.Bool.{Bool, true, false, cond, ◌&&◌, true≢false}
use mathlib.Core.List.{List}
use Prim.Native.Nat.{ℕ, zero, suc, ◌+◌, ◌-◌, ◌*◌, ◌^◌, ◌≤◌, ◌<◌}
use native.Mathlib.Decide.{dec_le}
use native.Mathlib.Numerals.{add-one}
use native.Mathlib.Omega.{arith}
use borrow.Author.Tests.{eq-eqb, ne_eqb, le-leb, lt-leb}
use lib.Bits.{bit_and}
use lib.Dec.{eqb, leb}
use lib.ListN.{length, get_or, set, length-set}
use Rattle.grid.specs.declared.Box.{Box}
use Rattle.grid.specs.Boxes.{overlaps}
use Rattle.by_line.specs.First.{meet_before}
use Rattle.short_lists.specs.Short.{ready_box, ShortReady, decide_by, hands_out, PairOutputs, pair_outputs, try_pair, try_row, try_rows, short_fits, short_rows, ShortRowAsks}

-- ---- room

module _ (list marks room hits : ℕ) where
  pub fits_long : 64 < list → false ≡ short_fits list marks room hits
  unfolding short_fits
  fits_long h = rw (lt-leb list 64 h)

  module _ (few : list ≤ 64) where
    pub fits_unmarked : marks < list → false ≡ short_fits list marks room hits
    unfolding short_fits
    fits_unmarked h = rw (le-leb list 64 few, lt-leb list marks h)

    module _ (marked : list ≤ marks) where
      pub fits_unboxed : room < list * 4 → false ≡ short_fits list marks room hits
      unfolding short_fits
      fits_unboxed h = rw (le-leb list 64 few, le-leb list marks marked, lt-leb (list * 4) room h)

      pub fits_all : list * 4 ≤ room → leb hits (2 ^ 62) ≡ short_fits list marks room hits
      unfolding short_fits
      fits_all h = rw (le-leb list 64 few, le-leb list marks marked, le-leb (list * 4) room h)

and_left : (a b : Bool) → (a && b) ≡ true → a ≡ true
and_left true b e = refl
and_left false b e = e

and_right : (a b : Bool) → (a && b) ≡ true → b ≡ true
and_right true b e = e
and_right false b e = absurd (true≢false (sym e))

leb_says : (a b : ℕ) → leb a b ≡ true → a ≤ b
leb_says a b e = go (dec_le a b)
  where
    go : Dec (a ≤ b) → a ≤ b
    go (yes l) = l
    go (no n) = absurd (true≢false (sym e ∙ lt-leb a b (omega (arith, n))))

pub record Room (list marks room hits : ℕ) : Type 0 where
  pub few : list ≤ 64
  pub marked : list ≤ marks
  pub boxed : list * 4 ≤ room
  pub small : hits ≤ 2 ^ 62

pub fits_room : {list marks room hits : ℕ} {r : Bool} → r ≡ short_fits list marks room hits → r ≡ true → Room list marks room hits
unfolding short_fits
fits_room {list} {marks} {room} {hits} q y =
    let e = sym q ∙ y in
    let a = leb list 64 in
    let b = leb list marks in
    let d = leb (list * 4) room in
    let f = leb hits (2 ^ 62) in
    let e₁ = and_right a (b && (d && f)) e in
    let e₂ = and_right b (d && f) e₁ in
    record {
      few = leb_says list 64 (and_left a (b && (d && f)) e);
      marked = leb_says list marks (and_left b (d && f) e₁);
      boxed = leb_says (list * 4) room (and_left d f e₂);
      small = leb_says hits (2 ^ 62) (and_right d f e₂);
    }

pub rows_fit : (w : ShortReady) (o : PairOutputs) → short_fits (length w.list) (length w.marks) (length w.boxes) o.hits ≡ true
    → try_rows w (length w.list) 0 o ≡ short_rows w o
unfolding short_rows
rows_fit w o e = rw e

pub rows_none : (w : ShortReady) (o : PairOutputs) → short_fits (length w.list) (length w.marks) (length w.boxes) o.hits ≡ false → o ≡ short_rows w o
unfolding short_rows
rows_none w o e = rw e

-- ---- one test

module _ (near : Bool) (common a b : ℕ) (starts listing counts : List ℕ) where
  module _ (o : common ≡ 1) where
    pub decide_met : near ≡ true → meet_before a b starts listing counts ≡ true → false ≡ decide_by near common a b starts listing counts
    unfolding decide_by
    decide_met n m = rw (eq-eqb common 1 o, n, m)

    pub decide_first : near ≡ true → meet_before a b starts listing counts ≡ false → true ≡ decide_by near common a b starts listing counts
    unfolding decide_by
    decide_first n m = rw (eq-eqb common 1 o, n, m)

    pub decide_far : near ≡ false → false ≡ decide_by near common a b starts listing counts
    unfolding decide_by
    decide_far n = rw (eq-eqb common 1 o, n)

  pub decide_marked : (common ≡ 1 → ⊥) → (near && eqb common 0) ≡ decide_by near common a b starts listing counts
  unfolding decide_by
  decide_marked n = rw (ne_eqb common 1 n)

-- ---- a row

row_more : (w : ShortReady) (i j : ℕ) (o : PairOutputs) → j < length w.list
    → try_row w i (length w.list - j) j o ≡ try_row w i (length w.list - (j + 1)) (j + 1) (try_pair (hands_out w i j) (get_or w.list i 0) (get_or w.list j 0) o)
unfolding try_row
row_more w i j o l = let e : length w.list - j ≡ suc (length w.list - (j + 1)) = omega arith in rw (e, add-one)

pub record RowTried (w : ShortReady) (i : ℕ) (fs₀ ss₀ : List ℕ) (hits₀ : ℕ) (fs ss : List ℕ) (hits j : ℕ) : Type 0 where
  pub asks : ShortRowAsks w i hits₀
  pub at : j ≤ length w.list
  pub left : try_row w i (length w.list - j) j (pair_outputs fs ss hits) ≡ try_row w i (length w.list - (i + 1)) (i + 1) (pair_outputs fs₀ ss₀ hits₀)
  pub few : hits ≤ hits₀ + j
  pub first_long : length fs ≡ length fs₀
  pub second_long : length ss ≡ length ss₀

pub row_begin : {w : ShortReady} {i : ℕ} {fs ss : List ℕ} {hits : ℕ} → ShortRowAsks w i hits → RowTried w i fs ss hits fs ss hits (i + 1)
row_begin a = record { asks = a; at = omega (arith, a.inside); left = refl; few = omega arith; first_long = refl; second_long = refl }

module _ {w : ShortReady} {i : ℕ} {fs₀ ss₀ : List ℕ} {hits₀ : ℕ} {fs ss : List ℕ} {hits j : ℕ} (t : RowTried w i fs₀ ss₀ hits₀ fs ss hits j) where
  pub row_done : length w.list ≤ j → pair_outputs fs ss hits ≡ try_row w i (length w.list - (i + 1)) (i + 1) (pair_outputs fs₀ ss₀ hits₀)
  unfolding try_row
  row_done l = let e : length w.list - j ≡ 0 = omega arith in rw e at t.left

  module _ (l : j < length w.list) where
    pub row_fits : hits + 1 < 2 ^ 64
    row_fits = omega (arith, t.few, t.asks.small, t.asks.fits.few, l)

    module _ {bounds other : Box} (p : bounds ≡ ready_box w.boxes i) (q : other ≡ ready_box w.boxes j) {near : Bool} (n : near ≡ overlaps bounds other)
        {r : Bool} (e : r ≡ decide_by near (bit_and (get_or w.marks i 0) (get_or w.marks j 0)) (get_or w.list i 0) (get_or w.list j 0) w.starts w.listing w.counts)
        {fs' ss' : List ℕ} (f : fs' ≡ set fs hits (get_or w.list i 0)) (g : ss' ≡ set ss hits (get_or w.list j 0)) where
      is : r ≡ hands_out w i j
      is = e ∙ rw (n, p, q)

      next : {hits' : ℕ} → hits' ≡ cond r (hits + 1) hits → hits' ≤ hits + 1 → RowTried w i fs₀ ss₀ hits₀ fs' ss' hits' (j + 1)
      unfolding try_pair
      next {hits'} h k =
          let o : pair_outputs fs' ss' hits' ≡ try_pair (hands_out w i j) (get_or w.list i 0) (get_or w.list j 0) (pair_outputs fs ss hits) = rw (f, g, h, is) in
          record {
            asks = t.asks;
            at = omega (arith, l);
            left = rw o (sym (row_more w i j (pair_outputs fs ss hits) l) ∙ t.left);
            few = omega (arith, t.few, k);
            first_long = rw f (length-set fs hits (get_or w.list i 0) ∙ t.first_long);
            second_long = rw g (length-set ss hits (get_or w.list j 0) ∙ t.second_long);
          }

      pub row_yes : r ≡ true → RowTried w i fs₀ ss₀ hits₀ fs' ss' (hits + 1) (j + 1)
      row_yes y = next (rw y) (omega arith)

      pub row_over : r ≡ false → RowTried w i fs₀ ss₀ hits₀ fs' ss' hits (j + 1)
      row_over y = next (rw y) (omega arith)

-- ---- the rows

cond_most : (y : Bool) (h : ℕ) → cond y (h + 1) h ≤ h + 1
cond_most true h = omega arith
cond_most false h = omega arith

row_most : (w : ShortReady) (i n j : ℕ) (o : PairOutputs) → (try_row w i n j o).hits ≤ o.hits + n
unfolding try_row try_pair
row_most w i zero j o = omega arith
row_most w i (suc n) j o =
    omega (arith, row_most w i n (suc j) (try_pair (hands_out w i j) (get_or w.list i 0) (get_or w.list j 0) o), cond_most (hands_out w i j) o.hits)

rows_more : (w : ShortReady) (i : ℕ) (o : PairOutputs) → i < length w.list
    → try_rows w (length w.list - i) i o ≡ try_rows w (length w.list - (i + 1)) (i + 1) (try_row w i (length w.list - (i + 1)) (i + 1) o)
unfolding try_rows
rows_more w i o l = let e : length w.list - i ≡ suc (length w.list - (i + 1)) = omega arith in rw (e, add-one)

pub record RowsTried (w : ShortReady) (fs₀ ss₀ : List ℕ) (hits₀ : ℕ) (fs ss : List ℕ) (hits i : ℕ) : Type 0 where
  pub fits : Room (length w.list) (length w.marks) (length w.boxes) hits₀
  pub at : i ≤ length w.list
  pub left : try_rows w (length w.list - i) i (pair_outputs fs ss hits) ≡ try_rows w (length w.list) 0 (pair_outputs fs₀ ss₀ hits₀)
  pub few : hits ≤ hits₀ + i * 64
  pub first_long : length fs ≡ length fs₀
  pub second_long : length ss ≡ length ss₀

pub tried_begin : {w : ShortReady} {fs ss : List ℕ} {hits : ℕ} → Room (length w.list) (length w.marks) (length w.boxes) hits
    → RowsTried w fs ss hits fs ss hits 0
tried_begin {w} f =
    let z : length w.list - 0 ≡ length w.list = omega arith in
    record { fits = f; at = omega arith; left = rw z; few = omega arith; first_long = refl; second_long = refl }

module _ {w : ShortReady} {fs₀ ss₀ : List ℕ} {hits₀ : ℕ} {fs ss : List ℕ} {hits i : ℕ} (t : RowsTried w fs₀ ss₀ hits₀ fs ss hits i) where
  pub tried_done : length w.list ≤ i → pair_outputs fs ss hits ≡ try_rows w (length w.list) 0 (pair_outputs fs₀ ss₀ hits₀)
  unfolding try_rows
  tried_done l = let e : length w.list - i ≡ 0 = omega arith in rw e at t.left

  module _ (l : i < length w.list) where
    pub tried_row : ShortRowAsks w i hits
    tried_row =
        record {
          fits = record { few = t.fits.few; marked = t.fits.marked; boxed = t.fits.boxed };
          inside = l;
          small = omega (arith, t.few, t.fits.small, t.fits.few, l);
        }

    pub tried_next : {fs' ss' : List ℕ} {hits' : ℕ} → pair_outputs fs' ss' hits' ≡ try_row w i (length w.list - (i + 1)) (i + 1) (pair_outputs fs ss hits)
        → length fs' ≡ length fs → length ss' ≡ length ss → RowsTried w fs₀ ss₀ hits₀ fs' ss' hits' (i + 1)
    tried_next {fs'} {ss'} {hits'} e f g =
        let h : hits' ≡ (try_row w i (length w.list - (i + 1)) (i + 1) (pair_outputs fs ss hits)).hits = ap (λ (o : PairOutputs). o.hits) e in
        record {
          fits = t.fits;
          at = omega (arith, l);
          left = rw e (sym (rows_more w i (pair_outputs fs ss hits) l) ∙ t.left);
          few = omega (arith, t.few, h, row_most w i (length w.list - (i + 1)) (i + 1) (pair_outputs fs ss hits), t.fits.few);
          first_long = f ∙ t.first_long;
          second_long = g ∙ t.second_long;
        }
