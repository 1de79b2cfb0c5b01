-- The scans by marks: what the bits that two marks have in common decide of a test. Assumes nothing.
use mathlib.Core.Path.{◌≡◌, refl, sym, ◌∙◌}
use mathlib.Core.Bool.{Bool, true, false, cond, and-true, and-false}
use mathlib.Core.List.{List}
use Prim.Native.Nat.{ℕ, zero, suc, ◌+◌, ◌*◌, ◌≤◌, ◌<◌, ◌^◌}
use native.Mathlib.Decide.{dec_le, dec_lt}
use native.Mathlib.Omega.{arith}
use borrow.Author.Tests.{lt-ltb, le-ltb, le-leb, lt-leb}
use lib.Dec.{eqb}
use lib.Bits.{bit_and, and_zero_l}
use lib.ListN.{length, get_or, drop, set, length-drop}
use lib.Seq.{get_or-drop}
use Rattle.slices.proofs.Members.{below_at}
use Rattle.by_line.specs.First.{met_below, meet_before, first_by}
use Rattle.by_line.specs.Marks.{mark_of, MarksAre}
use Rattle.by_line.proofs.Common.{Standing}
use Rattle.by_line.proofs.Shared.{shared_met, apart_first}
use Rattle.first_tests.specs.InsideScan.{keep_at, PlaceAsks, PairAsks, RowHandedOut, RowsAsk}
use Rattle.first_tests.specs.InsideMarked.{MarkedPair, MarkedRow, MarkedRows}
use Rattle.first_tests.proofs.Scans.{pair_no, pair_met, pair_first, ListScan, list_begin, list_pair, list_yes, list_no}
use Rattle.first_tests.proofs.Lists.{Rows, rows_begin, row_scan, rows_next}

-- ---- a row

-- two lines that met before are not handed out
keep_met : (chosen : ℕ → ℕ → Bool) (W : ℕ → List ℕ) (c a b : ℕ) → met_below W c a b ≡ true → false ≡ keep_at chosen W c a b
unfolding keep_at
keep_met chosen W c a b e = rw e (sym (and-false (chosen a b)))

-- two that did not are handed out where the decision is yes
keep_apart : (chosen : ℕ → ℕ → Bool) (W : ℕ → List ℕ) (c a b : ℕ) → met_below W c a b ≡ false → chosen a b ≡ keep_at chosen W c a b
unfolding keep_at
keep_apart chosen W c a b e = rw e (sym (and-true (chosen a b)))

module _ {N head b common sure : ℕ} {starts listing counts : List ℕ} (a : MarkedPair N head b common sure starts listing counts) (h : PlaceAsks N starts listing counts)
    (chosen : ℕ → ℕ → Bool) where
  -- a bit above the lowest in common
  pub marked_met : 1 < common → false ≡ keep_at chosen h.W h.c head b
  marked_met l = keep_met chosen h.W h.c head b (a.says.met l h)

  -- fewer than it takes to be unsure
  pub marked_apart : common < sure → {r : Bool} → r ≡ chosen head b → r ≡ keep_at chosen h.W h.c head b
  marked_apart l e = e ∙ keep_apart chosen h.W h.c head b (a.says.apart l h)

  -- two lines that are not chosen
  pub marked_far : {r : Bool} → r ≡ chosen head b → r ≡ false → false ≡ keep_at chosen h.W h.c head b
  marked_far e q = pair_no a.pair h chosen (sym e ∙ q)

  -- two that are, by whether the test is the first
  pub marked_near : {near : Bool} → near ≡ chosen head b → near ≡ true → {r : Bool} → r ≡ first_by common sure head b starts listing counts
      → r ≡ keep_at chosen h.W h.c head b
  unfolding first_by
  marked_near e q {r} f = go (dec_lt common sure) (meet_before head b starts listing counts) refl
    where
      o : chosen head b ≡ true
      o = sym e ∙ q

      go : Dec (common < sure) → (m : Bool) → meet_before head b starts listing counts ≡ m → r ≡ keep_at chosen h.W h.c head b
      go (yes l) m z =
          let f₁ : r ≡ true = f ∙ rw (lt-ltb common sure l) in
          f₁ ∙ marked_apart l (sym o)
      go (no n) true z = let f₁ : r ≡ false = f ∙ rw (le-ltb common sure (omega (arith, n)), z) in f₁ ∙ pair_met a.pair h chosen o z
      go (no n) false z = let f₁ : r ≡ true = f ∙ rw (le-ltb common sure (omega (arith, n)), z) in f₁ ∙ pair_first a.pair h chosen o z

-- two lines of which nothing is told
pub marked_none : {N head b sure : ℕ} {starts listing counts : List ℕ} → PairAsks N head b starts listing counts → sure ≤ 1
    → MarkedPair N head b 1 sure starts listing counts
marked_none a l = record { pair = a; says = record { met = λ d. absurd (omega (arith, d)); apart = λ d. absurd (omega (arith, d, l)) } }

pub record MarkScan (chosen : ℕ → ℕ → Bool) (N head mark sure : ℕ) (bs marks starts listing counts : List ℕ) (fs₀ ss₀ : List ℕ) (hits₀ : ℕ) (fs ss : List ℕ) (hits j : ℕ) : Type 0 where
  pub asks : MarkedRow N head mark sure bs marks starts listing counts hits₀
  pub list : ListScan chosen N head bs starts listing counts fs₀ ss₀ hits₀ fs ss hits j

pub marked_begin : {chosen : ℕ → ℕ → Bool} {N head mark sure : ℕ} {bs marks starts listing counts : List ℕ} {fs ss : List ℕ} {hits : ℕ}
    → MarkedRow N head mark sure bs marks starts listing counts hits → MarkScan chosen N head mark sure bs marks starts listing counts fs ss hits fs ss hits 0
marked_begin a = record { asks = a; list = list_begin a.scan }

module _ {chosen : ℕ → ℕ → Bool} {N head mark sure : ℕ} {bs marks starts listing counts : List ℕ} {fs₀ ss₀ : List ℕ} {hits₀ : ℕ} {fs ss : List ℕ} {hits j : ℕ}
    (s : MarkScan chosen N head mark sure bs marks starts listing counts fs₀ ss₀ hits₀ fs ss hits j) (l : j < length bs) where
  pub marked_pair : MarkedPair N head (get_or bs j 0) (bit_and mark (get_or marks j 0)) sure starts listing counts
  marked_pair = record { pair = list_pair s.list l; says = s.asks.says j l }

  module _ {r : Bool} (e : (h : PlaceAsks N starts listing counts) → r ≡ keep_at chosen h.W h.c head (get_or bs j 0)) where
    pub marked_yes : r ≡ true → {fs' ss' : List ℕ} → fs' ≡ set fs hits head → ss' ≡ set ss hits (get_or bs j 0)
        → MarkScan chosen N head mark sure bs marks starts listing counts fs₀ ss₀ hits₀ fs' ss' (hits + 1) (j + 1)
    marked_yes q f g = record { asks = s.asks; list = list_yes s.list l e q f g }

    pub marked_no : r ≡ false → MarkScan chosen N head mark sure bs marks starts listing counts fs₀ ss₀ hits₀ fs ss hits (j + 1)
    marked_no q = record { asks = s.asks; list = list_no s.list l e q }

-- ---- the rows of a list

pub record MarkRows (chosen : ℕ → ℕ → Bool) (N sure : ℕ) (xs marks starts listing counts fs₀ ss₀ : List ℕ) (hits₀ : ℕ) (fs ss : List ℕ) (hits i : ℕ) : Type 0 where
  pub asks : MarkedRows N sure xs marks starts listing counts hits₀
  pub rows : Rows chosen N xs starts listing counts fs₀ ss₀ hits₀ fs ss hits i

pub marks_begin : {chosen : ℕ → ℕ → Bool} {N sure : ℕ} {xs marks starts listing counts fs ss : List ℕ} {hits : ℕ} → MarkedRows N sure xs marks starts listing counts hits
    → MarkRows chosen N sure xs marks starts listing counts fs ss hits fs ss hits 0
marks_begin a = record { asks = a; rows = rows_begin a.rows }

pub mark_fits : (m sure : ℕ) → m < 2 ^ 32 → sure ≤ 1 → m * sure < 2 ^ 32
mark_fits m zero h l = omega arith
mark_fits m (suc zero) h l = omega arith
mark_fits m (suc (suc n)) h l = absurd (omega (arith, l))

module _ {chosen : ℕ → ℕ → Bool} {N sure : ℕ} {xs marks starts listing counts fs₀ ss₀ : List ℕ} {hits₀ : ℕ} {fs ss : List ℕ} {hits i : ℕ}
    (s : MarkRows chosen N sure xs marks starts listing counts fs₀ ss₀ hits₀ fs ss hits i) (l : i < length xs) {head : ℕ} (e : head ≡ get_or xs i 0) where
  pub marked_row : {known : ℕ} {bs ms : List ℕ} → known ≡ sure → bs ≡ drop (i + 1) xs → ms ≡ drop (i + 1) marks
      → MarkedRow N head (get_or marks i 0 * sure) known bs ms starts listing counts hits
  marked_row {known} {bs} {ms} k q qm =
      rw (k, q, qm)
      (record {
        scan = row_scan s.rows l e refl;
        long = rw (length-drop (i + 1) xs, length-drop (i + 1) marks) (omega (arith, s.asks.long));
        says = λ j k.
            rw (e, get_or-drop (i + 1) xs j 0, get_or-drop (i + 1) marks j 0) (s.asks.says i ((i + 1) + j) l (omega (arith, k, length-drop (i + 1) xs)));
      })

  pub marks_next : {bs fs' ss' : List ℕ} {hits' : ℕ} → bs ≡ drop (i + 1) xs → RowHandedOut chosen N head starts listing counts bs fs ss hits fs' ss' hits'
      → length fs' ≡ length fs → length ss' ≡ length ss → MarkRows chosen N sure xs marks starts listing counts fs₀ ss₀ hits₀ fs' ss' hits' (i + 1)
  marks_next q g lf lg = record { asks = s.asks; rows = rows_next s.rows l e q g lf lg }

-- ---- room for marks, beside what is held of the cells

pub record Beside (room : ℕ) (marks : List ℕ) (A : Type 0) : Type 0 where
  pub long : length marks ≡ room
  pub held : A

-- ---- the marks of a list say so

standing : {N : ℕ} {starts listing counts : List ℕ} (h : PlaceAsks N starts listing counts) → Standing h.W h.m N starts listing h.c counts
standing h =
    let t = h.listed in
    record { table = t.table; starts_long = t.starts_long; listing_long = t.listing_long; at_most = t.at_most; counts_long = t.counts_long; counted = t.counted }

module _ {N : ℕ} {xs starts listing counts : List ℕ} {hits : ℕ} (a : RowsAsk N xs starts listing counts hits) where
  -- marks that are sure
  pub cell_marked : {before low : ℕ} {marks marks' : List ℕ} {r : ℕ} → MarksAre xs before low starts listing counts marks r marks' → length xs ≤ length marks
      → MarkedRows N 1 xs marks' starts listing counts hits
  cell_marked {before} {low} {marks} {marks'} {r} m l =
      let o : r ≡ 1 = m.answers ∙ rw (le-leb (length xs) (length marks) l) in
      record {
        rows = a;
        most = omega arith;
        long = omega (arith, m.long, l);
        says = λ i j p q.
            let ei : get_or marks' i 0 * 1 ≡ mark_of (get_or xs i 0) before low starts listing counts = let z = m.marked o i p in omega (arith, z) in
            let ej : get_or marks' j 0 ≡ mark_of (get_or xs j 0) before low starts listing counts = m.marked o j q in
            rw (ei, ej)
            (record {
              met = λ d h. shared_met (standing h) before low (get_or xs i 0) (get_or xs j 0) (below_at N xs i a.below p) (below_at N xs j a.below q) d;
              apart = λ d h. apart_first (standing h) before low (get_or xs i 0) (get_or xs j 0) (below_at N xs i a.below p) (below_at N xs j a.below q) (omega (arith, d));
            });
      }

  -- the list in the place of marks
  none_marked : MarkedRows N 0 xs xs starts listing counts hits
  none_marked =
      record {
        rows = a;
        most = omega arith;
        long = omega arith;
        says = λ i j p q.
            let z : get_or xs i 0 * 0 ≡ 0 = omega arith in
            rw (z, and_zero_l (get_or xs j 0)) (record { met = λ d. absurd (omega (arith, d)); apart = λ d. absurd (omega (arith, d)) });
      }

  -- marks where there is room for them
  pub list_marked : {before low : ℕ} {marks marks' : List ℕ} {r : ℕ} → MarksAre xs before low starts listing counts marks r marks'
      → {seen : List ℕ} → seen ≡ cond (eqb r 0) xs marks' → MarkedRows N r xs seen starts listing counts hits
  list_marked {marks = marks} {r = r} m {seen} e = go (dec_le (length xs) (length marks))
    where
      go : Dec (length xs ≤ length marks) → MarkedRows N r xs seen starts listing counts hits
      go (yes l) =
          let o : r ≡ 1 = m.answers ∙ rw (le-leb (length xs) (length marks) l) in
          rw (e, o) (cell_marked m l)
      go (no n) =
          let o : r ≡ 0 = m.answers ∙ rw (lt-leb (length xs) (length marks) (omega (arith, n))) in
          rw (e, o) none_marked
