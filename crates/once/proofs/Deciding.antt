-- The rows of a short list hand out the first tests of which the decision is yes, where the boxes that stand ready decide as it does. Assumes nothing.
use mathlib.Core.Path.{◌≡◌, refl, sym, subst, ◌∙◌}
use mathlib.Core.Bool.{Bool, true, false, not, cond, ◌&&◌}
use mathlib.Core.List.{List}
use Prim.Native.Nat.{ℕ, zero, suc, ◌+◌, ◌*◌, ◌<◌}
use native.Mathlib.Nat.{zero-add}
use native.Mathlib.Numerals.{add-one}
use native.Mathlib.Decide.{ℕ_discrete}
use native.Mathlib.Omega.{arith}
use borrow.Author.Tests.{eq-eqb, ne_eqb}
use lib.Bits.{bit_and}
use lib.Dec.{eqb}
use lib.Ieee.{Float}
use lib.ListN.{length, get_or, drop, length-drop}
use lib.Seq.{get_or-drop}
use Rattle.slices.proofs.Members.{below_at}
use Rattle.grid.specs.Boxes.{overlaps}
use Rattle.by_line.specs.First.{meet_before}
use Rattle.first_tests.specs.InsideScan.{keep_at, PlaceAsks, PairAsks, RowsDone}
use Rattle.first_tests.specs.InsideMarked.{Says, MarkedPair, MarkedRows}
use Rattle.first_tests.proofs.Scans.{pair_no, pair_met, pair_first, ListScan, list_begin, list_done, list_over, list_yes, list_no}
use Rattle.first_tests.proofs.Lists.{Rows, rows_begin, rows_done, row_scan, rows_next}
use Rattle.first_tests.proofs.Passing.{marked_met, marked_apart}
use Rattle.short_lists.specs.Short.{ready_box, ShortReady, ready, decide_by, hands_out, PairOutputs, pair_outputs, try_pair, try_row, try_rows, short_fits, short_rows}
use Rattle.short_lists.proofs.Tries.{rows_fit}

-- ---- one test

and_true : (b : Bool) → (b && true) ≡ b
and_true true = refl
and_true false = refl

and_false : (b : Bool) → (b && false) ≡ false
and_false true = refl
and_false false = refl

module _ {N a b common : ℕ} {starts listing counts : List ℕ} (m : MarkedPair N a b common 1 starts listing counts) (h : PlaceAsks N starts listing counts) (chosen : ℕ → ℕ → Bool) where
  looked_up : (near met : Bool) → near ≡ chosen a b → meet_before a b starts listing counts ≡ met → (near && not met) ≡ keep_at chosen h.W h.c a b
  looked_up false met e q = pair_no m.pair h chosen (sym e)
  looked_up true true e q = pair_met m.pair h chosen (sym e) q
  looked_up true false e q = pair_first m.pair h chosen (sym e) q

  decided : {near : Bool} → near ≡ chosen a b → decide_by near common a b starts listing counts ≡ keep_at chosen h.W h.c a b
  unfolding decide_by
  decided {near} e = go (ℕ_discrete common 1) (ℕ_discrete common 0)
    where
      go : Dec (common ≡ 1) → Dec (common ≡ 0)
          → cond (eqb common 1) (near && not (meet_before a b starts listing counts)) (near && eqb common 0) ≡ keep_at chosen h.W h.c a b
      go (yes o) z = rw (eq-eqb common 1 o) (looked_up near (meet_before a b starts listing counts) e refl)
      go (no n) (yes z) = rw (ne_eqb common 1 n, eq-eqb common 0 z) (and_true near ∙ marked_apart m h chosen (omega (arith, z)) e)
      go (no n) (no z) = rw (ne_eqb common 1 n, ne_eqb common 0 z) (and_false near ∙ marked_met m h chosen (omega (arith, n, z)))

-- ---- the rows

module _ (chosen : ℕ → ℕ → Bool) (N : ℕ) (xs marks : List ℕ) (s : List Float) (starts listing counts : List ℕ) (hits₀ : ℕ)
    (m : MarkedRows N 1 xs marks starts listing counts hits₀)
    (near : (i j : ℕ) → i < length xs → j < length xs → overlaps (ready_box s i) (ready_box s j) ≡ chosen (get_or xs i 0) (get_or xs j 0)) where
  abbrev w : ShortReady
  w = ready xs marks s starts listing counts

  hands : (i j : ℕ) → i < length xs → j < length xs → (h : PlaceAsks N starts listing counts)
      → hands_out w i j ≡ keep_at chosen h.W h.c (get_or xs i 0) (get_or xs j 0)
  hands i j p q h =
      let z : get_or marks i 0 * 1 ≡ get_or marks i 0 = omega arith in
      let u : Says N (get_or xs i 0) (get_or xs j 0) (bit_and (get_or marks i 0) (get_or marks j 0)) 1 starts listing counts = rw z at (m.says i j p q) in
      let a : PairAsks N (get_or xs i 0) (get_or xs j 0) starts listing counts =
      record { place = m.rows.place; one = below_at N xs i m.rows.below p; other = below_at N xs j m.rows.below q } in
      decided (record { pair = a; says = u }) h chosen (near i j p q)

  module _ (fs₀ ss₀ : List ℕ) (h₀ i : ℕ) (l : i < length xs) where
    abbrev Row : PairOutputs → ℕ → Type 0
    Row o k = ListScan chosen N (get_or xs i 0) (drop (i + 1) xs) starts listing counts fs₀ ss₀ h₀ o.first o.second o.hits k

    row_turn : (k : ℕ) (o : PairOutputs) → k < length (drop (i + 1) xs) → Row o k
        → Row (try_pair (hands_out w i ((i + 1) + k)) (get_or xs i 0) (get_or xs ((i + 1) + k) 0) o) (k + 1)
    unfolding try_pair
    row_turn k o d r = go (hands_out w i ((i + 1) + k)) refl
      where
        at : get_or (drop (i + 1) xs) k 0 ≡ get_or xs ((i + 1) + k) 0
        at = get_or-drop (i + 1) xs k 0

        says : (h : PlaceAsks N starts listing counts) → hands_out w i ((i + 1) + k) ≡ keep_at chosen h.W h.c (get_or xs i 0) (get_or (drop (i + 1) xs) k 0)
        says h = rw at (hands i ((i + 1) + k) l (omega (arith, d, length-drop (i + 1) xs)) h)

        go : (y : Bool) → hands_out w i ((i + 1) + k) ≡ y → Row (try_pair y (get_or xs i 0) (get_or xs ((i + 1) + k) 0) o) (k + 1)
        go true e = list_yes r d says e refl (rw at)
        go false e = list_over (list_no r d says e) (get_or xs i 0) (get_or xs ((i + 1) + k) 0) refl refl

    row_all : (n k : ℕ) (o : PairOutputs) → k + n ≡ length (drop (i + 1) xs) → Row o k → Row (try_row w i n ((i + 1) + k) o) (length (drop (i + 1) xs))
    unfolding try_row
    row_all zero k o e r = let z : k ≡ length (drop (i + 1) xs) = omega (arith, e) in rw z at r
    row_all (suc n) k o e r =
        let z : (i + 1) + (k + 1) ≡ suc ((i + 1) + k) = omega arith in
        rw z at (row_all n (k + 1) (try_pair (hands_out w i ((i + 1) + k)) (get_or xs i 0) (get_or xs ((i + 1) + k) 0) o) (omega (arith, e)) (row_turn k o (omega (arith, e)) r))

  module _ (fs₀ ss₀ : List ℕ) where
    abbrev All : PairOutputs → ℕ → Type 0
    All o i = Rows chosen N xs starts listing counts fs₀ ss₀ hits₀ o.first o.second o.hits i

    rows_turn : (n i : ℕ) (o : PairOutputs) → i + suc n ≡ length xs → All o i → All (try_row w i n (suc i) o) (i + 1)
    rows_turn n i o e r =
        let l : i < length xs = omega (arith, e) in
        let z : (i + 1) + 0 ≡ suc i = omega arith in
        let d : length (drop (i + 1) xs) ≡ 0 + n = omega (arith, e, length-drop (i + 1) xs) in
        let q = rw z at (row_all o.first o.second o.hits i l n 0 o (sym d) (list_begin (row_scan r l refl refl))) in
        rows_next r l refl refl (list_done q (omega arith)) q.scan.first_long q.scan.second_long

    rows_all : (n i : ℕ) (o : PairOutputs) → i + n ≡ length xs → All o i → All (try_rows w n i o) (length xs)
    unfolding try_rows
    rows_all zero i o e r = let z : i ≡ length xs = omega (arith, e) in rw z at r
    rows_all (suc n) i o e r = rows_all n (suc i) (try_row w i n (suc i) o) (omega (arith, e)) (rw (add-one i) at (rows_turn n i o e r))

  -- THE ROWS OF A SHORT LIST
  pub short_done : {fs ss fs' ss' : List ℕ} {hits' : ℕ} → short_fits (length xs) (length marks) (length s) hits₀ ≡ true
      → pair_outputs fs' ss' hits' ≡ short_rows w (pair_outputs fs ss hits₀) → RowsDone chosen N starts listing counts xs fs ss hits₀ fs' ss' hits'
  short_done {fs} {ss} {fs'} {ss'} {hits'} f e =
      let e₁ : pair_outputs fs' ss' hits' ≡ try_rows w (length xs) 0 (pair_outputs fs ss hits₀) = e ∙ sym (rows_fit w (pair_outputs fs ss hits₀) f) in
      let a : All fs ss (pair_outputs fs' ss' hits') (length xs) =
      subst (λ (o : PairOutputs). All fs ss o (length xs)) (sym e₁) (rows_all fs ss (length xs) 0 (pair_outputs fs ss hits₀) (zero-add (length xs)) (rows_begin m.rows)) in
      rows_done a (omega arith)
