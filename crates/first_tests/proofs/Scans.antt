-- One test, and the two scans of a row. Assumes nothing.
use mathlib.Core.Path.{◌≡◌, refl, sym, ap, ◌∙◌}
use mathlib.Core.Bool.{Bool, true, false}
use mathlib.Core.List.{List, [], ◌∷◌, ◌++◌}
use Prim.Native.Nat.{ℕ, zero, suc, ◌+◌, ◌-◌, ◌≤◌, ◌<◌, ◌^◌}
use native.Mathlib.Nat.{add-zero}
use native.Mathlib.Numerals.{add-one}
use native.Mathlib.Omega.{arith}
use lib.ListN.{length, get_or, take, set, length-set, length-append}
use lib.Seq.{take-suc, take-length}
use Rattle.slices.proofs.Members.{below_at}
use Rattle.seek.specs.declared.Place.{Place}
use Rattle.seek.specs.Tests.{pair, with_each}
use Rattle.seek.specs.Inside.{numbers}
use Rattle.seek.proofs.Clauses.{with_nil, with_cons, with_append, numbers_zero, numbers_suc}
use Rattle.seek.proofs.OtherLines.{length_numbers}
use Rattle.by_line.specs.First.{met_below, meet_before}
use Rattle.by_line.proofs.Common.{met_is}
use Rattle.first_tests.specs.InsideScan.{keep_at, PlaceAsks, PairAsks, RowHandedOut, ScanAsks}
use Rattle.first_tests.proofs.Writes.{grown_none, grown_then, grown_over, grown_yes, grown_no}

-- ---- one test

module _ {N head b : ℕ} {starts listing counts : List ℕ} (a : PairAsks N head b starts listing counts) (h : PlaceAsks N starts listing counts) where
  met : meet_before head b starts listing counts ≡ met_below h.W h.c head b
  met =
      let l = h.listed in
      met_is (record { table = l.table; starts_long = l.starts_long; listing_long = l.listing_long; at_most = l.at_most; counts_long = l.counts_long; counted = l.counted })
      head b a.one a.other

  module _ (chosen : ℕ → ℕ → Bool) where
    pub pair_no : chosen head b ≡ false → false ≡ keep_at chosen h.W h.c head b
    unfolding keep_at
    pair_no o = rw o

    pub pair_met : chosen head b ≡ true → meet_before head b starts listing counts ≡ true → false ≡ keep_at chosen h.W h.c head b
    unfolding keep_at
    pair_met o m = rw (o, sym met ∙ m)

    pub pair_first : chosen head b ≡ true → meet_before head b starts listing counts ≡ false → true ≡ keep_at chosen h.W h.c head b
    unfolding keep_at
    pair_first o m = rw (o, sym met ∙ m)

-- ---- a scan: the tests with ys are made, of those with bs

pub record Scan (chosen : ℕ → ℕ → Bool) (N head : ℕ) (bs starts listing counts : List ℕ) (fs₀ ss₀ : List ℕ) (hits₀ : ℕ) (ys fs ss : List ℕ) (hits : ℕ) : Type 0 where
  pub asks : ScanAsks N head bs starts listing counts hits₀
  pub made : RowHandedOut chosen N head starts listing counts ys fs₀ ss₀ hits₀ fs ss hits
  pub few : hits ≤ hits₀ + length ys
  pub first_long : length fs ≡ length fs₀
  pub second_long : length ss ≡ length ss₀

pub scan_none : {chosen : ℕ → ℕ → Bool} {N head : ℕ} {bs starts listing counts : List ℕ} {fs ss : List ℕ} {hits : ℕ} → ScanAsks N head bs starts listing counts hits
    → Scan chosen N head bs starts listing counts fs ss hits [] fs ss hits
scan_none a = record { asks = a; made = λ h pl keep k. rw with_nil grown_none; few = omega arith; first_long = refl; second_long = refl }

module _ {chosen : ℕ → ℕ → Bool} {N head : ℕ} {bs starts listing counts : List ℕ} {fs₀ ss₀ : List ℕ} {hits₀ : ℕ} {ys fs ss : List ℕ} {hits : ℕ}
    (s : Scan chosen N head bs starts listing counts fs₀ ss₀ hits₀ ys fs ss hits) (b : ℕ) {r : Bool}
    (e : (h : PlaceAsks N starts listing counts) → r ≡ keep_at chosen h.W h.c head b) where
  one : (pl : Place) → with_each pl head (ys ++ (b ∷ [])) ≡ with_each pl head ys ++ (pair pl head b ∷ [])
  one pl = with_append pl head ys (b ∷ []) ∙ rw (with_cons, with_nil)

  pub scan_yes : r ≡ true → Scan chosen N head bs starts listing counts fs₀ ss₀ hits₀ (ys ++ (b ∷ [])) (set fs hits head) (set ss hits b) (hits + 1)
  scan_yes q =
      record {
        asks = s.asks;
        made = λ h pl keep k. rw (one pl) (grown_then (s.made h pl keep k) (grown_yes (pair pl head b) (k b ∙ sym (e h) ∙ q)));
        few = rw length-append (omega (arith, s.few));
        first_long = simp length-set s.first_long;
        second_long = simp length-set s.second_long;
      }

  pub scan_no : r ≡ false → Scan chosen N head bs starts listing counts fs₀ ss₀ hits₀ (ys ++ (b ∷ [])) fs ss hits
  scan_no q =
      record {
        asks = s.asks;
        made = λ h pl keep k. rw (one pl) (grown_then (s.made h pl keep k) (grown_no (pair pl head b) (k b ∙ sym (e h) ∙ q)));
        few = rw length-append (omega (arith, s.few));
        first_long = s.first_long;
        second_long = s.second_long;
      }

-- what is written beyond the pairs is written over
pub scan_over : {chosen : ℕ → ℕ → Bool} {N head : ℕ} {bs starts listing counts : List ℕ} {fs₀ ss₀ : List ℕ} {hits₀ : ℕ} {ys fs ss : List ℕ} {hits : ℕ}
    → Scan chosen N head bs starts listing counts fs₀ ss₀ hits₀ ys fs ss hits → (x y : ℕ)
    → Scan chosen N head bs starts listing counts fs₀ ss₀ hits₀ ys (set fs hits x) (set ss hits y) hits
scan_over s x y =
    record {
      asks = s.asks;
      made = λ h pl keep k. grown_over x y (s.made h pl keep k);
      few = s.few;
      first_long = simp length-set s.first_long;
      second_long = simp length-set s.second_long;
    }

-- ---- along a list

pub record ListScan (chosen : ℕ → ℕ → Bool) (N head : ℕ) (bs starts listing counts : List ℕ) (fs₀ ss₀ : List ℕ) (hits₀ : ℕ) (fs ss : List ℕ) (hits j : ℕ) : Type 0 where
  pub at : j ≤ length bs
  pub scan : Scan chosen N head bs starts listing counts fs₀ ss₀ hits₀ (take j bs) fs ss hits
  pub few : hits ≤ hits₀ + j

pub list_begin : {chosen : ℕ → ℕ → Bool} {N head : ℕ} {bs starts listing counts : List ℕ} {fs ss : List ℕ} {hits : ℕ} → ScanAsks N head bs starts listing counts hits
    → ListScan chosen N head bs starts listing counts fs ss hits fs ss hits 0
list_begin a = record { at = omega arith; scan = scan_none a; few = omega arith }

module _ {chosen : ℕ → ℕ → Bool} {N head : ℕ} {bs starts listing counts : List ℕ} {fs₀ ss₀ : List ℕ} {hits₀ : ℕ} {fs ss : List ℕ} {hits j : ℕ}
    (s : ListScan chosen N head bs starts listing counts fs₀ ss₀ hits₀ fs ss hits j) where
  pub list_done : length bs ≤ j → RowHandedOut chosen N head starts listing counts bs fs₀ ss₀ hits₀ fs ss hits
  list_done l h pl keep k = let e : j ≡ length bs = omega (arith, s.at) in rw (e, take-length) at (s.scan.made h pl keep k)

  pub list_over : (x y : ℕ) {fs' ss' : List ℕ} → fs' ≡ set fs hits x → ss' ≡ set ss hits y → ListScan chosen N head bs starts listing counts fs₀ ss₀ hits₀ fs' ss' hits j
  list_over x y f g = rw (f, g) (record { at = s.at; scan = scan_over s.scan x y; few = s.few })

  module _ (l : j < length bs) where
    pub list_pair : PairAsks N head (get_or bs j 0) starts listing counts
    list_pair = record { place = s.scan.asks.place; one = s.scan.asks.one; other = below_at N bs j s.scan.asks.below l }

    pub list_fits : hits + 1 < 2 ^ 64
    list_fits = omega (arith, s.few, s.scan.asks.small)

    more : take j bs ++ (get_or bs j 0 ∷ []) ≡ take (j + 1) bs
    more = sym (rw add-one (take-suc bs j 0 l))

    module _ {r : Bool} (e : (h : PlaceAsks N starts listing counts) → r ≡ keep_at chosen h.W h.c head (get_or bs j 0)) where
      pub list_yes : r ≡ true → {fs' ss' : List ℕ} → fs' ≡ set fs hits head → ss' ≡ set ss hits (get_or bs j 0)
          → ListScan chosen N head bs starts listing counts fs₀ ss₀ hits₀ fs' ss' (hits + 1) (j + 1)
      list_yes q f g = rw (f, g) (record { at = omega arith; scan = rw more at (scan_yes s.scan (get_or bs j 0) e q); few = omega (arith, s.few) })

      pub list_no : r ≡ false → ListScan chosen N head bs starts listing counts fs₀ ss₀ hits₀ fs ss hits (j + 1)
      list_no q = record { at = omega arith; scan = rw more at (scan_no s.scan (get_or bs j 0) e q); few = omega (arith, s.few) }

-- ---- along a run of lines

numbers_more : (d k : ℕ) → numbers d k ++ ((k + d) ∷ []) ≡ numbers (suc d) k
numbers_more zero k = rw (numbers_zero, numbers_suc, numbers_zero, add-zero)
numbers_more (suc d) k = let e : k + suc d ≡ suc k + d = omega arith in rw (numbers_suc d k, numbers_suc (suc d) k, e) (ap (λ (l : List ℕ). k ∷ l) (numbers_more d (suc k)))

pub record LineScan (chosen : ℕ → ℕ → Bool) (N head k stop : ℕ) (starts listing counts : List ℕ) (fs₀ ss₀ : List ℕ) (hits₀ : ℕ) (fs ss : List ℕ) (hits b : ℕ) : Type 0 where
  pub from : k ≤ b
  pub at : b - k ≤ stop - k
  pub scan : Scan chosen N head (numbers (stop - k) k) starts listing counts fs₀ ss₀ hits₀ (numbers (b - k) k) fs ss hits
  pub few : hits ≤ hits₀ + (b - k)

pub lines_begin : {chosen : ℕ → ℕ → Bool} {N head k stop : ℕ} {starts listing counts : List ℕ} {fs ss : List ℕ} {hits : ℕ}
    → ScanAsks N head (numbers (stop - k) k) starts listing counts hits → LineScan chosen N head k stop starts listing counts fs ss hits fs ss hits k
lines_begin {k = k} a =
    let z : k - k ≡ 0 = omega arith in
    record { from = omega arith; at = omega arith; scan = rw (z, numbers_zero) (scan_none a); few = omega arith }

-- the entry of a run at a place
at_number : (d k x : ℕ) → x < d → get_or (numbers d k) x 0 ≡ k + x
at_number zero k x l = absurd (omega arith)
at_number (suc d) k zero l = rw (numbers_suc d k) (sym (add-zero k))
at_number (suc d) k (suc x) l = rw (numbers_suc d k) (at_number d (suc k) x (omega arith) ∙ omega arith)

module _ {chosen : ℕ → ℕ → Bool} {N head k stop : ℕ} {starts listing counts : List ℕ} {fs₀ ss₀ : List ℕ} {hits₀ : ℕ} {fs ss : List ℕ} {hits b : ℕ}
    (s : LineScan chosen N head k stop starts listing counts fs₀ ss₀ hits₀ fs ss hits b) where
  pub lines_done : stop ≤ b → RowHandedOut chosen N head starts listing counts (numbers (stop - k) k) fs₀ ss₀ hits₀ fs ss hits
  lines_done l h pl keep q = let e : b - k ≡ stop - k = omega (arith, s.at) in rw e at (s.scan.made h pl keep q)

  module _ (l : b < stop) where
    pub lines_pair : PairAsks N head b starts listing counts
    lines_pair =
        let i : b - k < length (numbers (stop - k) k) = rw (length_numbers (stop - k) k) (omega (arith, s.from)) in
        let o = below_at N (numbers (stop - k) k) (b - k) s.scan.asks.below i in
        record { place = s.scan.asks.place; one = s.scan.asks.one; other = omega (arith, o, at_number (stop - k) k (b - k) (omega (arith, s.from)), s.from) }

    pub lines_fits : hits + 1 < 2 ^ 64
    lines_fits = omega (arith, s.few, s.from, s.scan.asks.small, length_numbers (stop - k) k)

    more_lines : numbers (b - k) k ++ (b ∷ []) ≡ numbers ((b + 1) - k) k
    more_lines =
        let e : (b + 1) - k ≡ suc (b - k) = omega (arith, s.from) in
        let e₂ : k + (b - k) ≡ b = omega (arith, s.from) in
        rw e (rw e₂ at (numbers_more (b - k) k))

    module _ {r : Bool} (e : (h : PlaceAsks N starts listing counts) → r ≡ keep_at chosen h.W h.c head b) where
      pub lines_yes : r ≡ true → {fs' ss' : List ℕ} → fs' ≡ set fs hits head → ss' ≡ set ss hits b
          → LineScan chosen N head k stop starts listing counts fs₀ ss₀ hits₀ fs' ss' (hits + 1) (b + 1)
      lines_yes q f g =
          rw (f, g)
          (record { from = omega (arith, s.from); at = omega (arith, s.from); scan = rw more_lines at (scan_yes s.scan b e q); few = omega (arith, s.few, s.from) })

      pub lines_no : r ≡ false → LineScan chosen N head k stop starts listing counts fs₀ ss₀ hits₀ fs ss hits (b + 1)
      lines_no q = record { from = omega (arith, s.from); at = omega (arith, s.from); scan = rw more_lines at (scan_no s.scan b e q); few = omega (arith, s.few, s.from) }
