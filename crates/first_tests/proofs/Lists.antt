-- The pairs of a list, row by row, and the lists of the cells, one by one. Assumes nothing.
use mathlib.Core.Path.{◌≡◌, refl, sym, ap, ◌∙◌}
use mathlib.Core.Bool.{Bool}
use mathlib.Core.List.{List, [], ◌∷◌, ◌++◌, append_assoc, append-nil}
use Prim.Native.Nat.{ℕ, zero, suc, ◌+◌, ◌-◌, ◌*◌, ◌≤◌, ◌<◌}
use native.Mathlib.Nat.{add-zero, zero-add}
use native.Mathlib.Numerals.{add-one}
use native.Mathlib.Omega.{arith}
use lib.ListN.{length, get_or, take, drop, length-drop}
use lib.Seq.{take-length}
use Rattle.slices.proofs.Members.{below_at, below_drop}
use Rattle.slices.proofs.Distinct.{length_rising}
use Rattle.tables.specs.Tables.{list_in}
use Rattle.tables.specs.Lists.{lines_at}
use Rattle.tables.specs.InsidePasses.{Counted, CanCount}
use Rattle.seek.specs.declared.Place.{Place}
use Rattle.seek.specs.declared.Place.TheVariants.{Global}
use Rattle.seek.specs.Tests.{Pair, pair, with_each, pairs, place_of, cell_tests}
use Rattle.seek.specs.Inside.{tri}
use Rattle.seek.proofs.Clauses.{with_nil, length_with, pairs_nil, pairs_cons, cells_zero, cells_suc}
use Rattle.seek.proofs.Lengths.{tri_suc, tri_mono, tri_twice}
use Rattle.by_line.proofs.Turns.{line_of}
use Rattle.first_tests.specs.Firsts.{kept_by}
use Rattle.first_tests.specs.InsideScan.{HandedOut, keep_at, Listed, RowHandedOut, ScanAsks, PlaceAsks, RowsAsk, RowsDone, CellsAsk, CellsDone}
use Rattle.first_tests.proofs.Writes.{grown_none, grown_then, kept_few}

-- ---- rows

-- the part of a list from a position on
pub part_all : (xs : List ℕ) (n : ℕ) → take (length xs - n) (drop n xs) ≡ drop n xs
part_all xs n = rw (← length-drop n xs) (take-length (drop n xs))

-- the first i rows of a list
pub rows_to : Place → List ℕ → ℕ → List Pair
rows_to pl xs zero = []
rows_to pl [] (suc i) = []
rows_to pl (a ∷ bs) (suc i) = with_each pl a bs ++ rows_to pl bs i

rows_more : (pl : Place) (xs : List ℕ) (i : ℕ) → i < length xs → rows_to pl xs i ++ with_each pl (get_or xs i 0) (drop (i + 1) xs) ≡ rows_to pl xs (i + 1)
unfolding rows_to
rows_more pl [] i l = absurd (omega arith)
rows_more pl (a ∷ bs) zero l = sym (append-nil (with_each pl a bs))
rows_more pl (a ∷ bs) (suc i) l =
    let e : suc i + 1 ≡ suc (i + 1) = omega arith in
    rw e (append_assoc (with_each pl a bs) (rows_to pl bs i) (with_each pl (get_or bs i 0) (drop (i + 1) bs)) ∙ ap (λ (l : List Pair). with_each pl a bs ++ l) (rows_more pl bs i (omega arith)))

rows_all : (pl : Place) (xs : List ℕ) → rows_to pl xs (length xs) ≡ pairs pl xs
unfolding rows_to
rows_all pl [] = sym (pairs_nil pl)
rows_all pl (a ∷ bs) = rw (pairs_cons, rows_all pl bs)

pub record Rows (chosen : ℕ → ℕ → Bool) (N : ℕ) (xs starts listing counts fs₀ ss₀ : List ℕ) (hits₀ : ℕ) (fs ss : List ℕ) (hits i : ℕ) : Type 0 where
  pub asks : RowsAsk N xs starts listing counts hits₀
  pub at : i ≤ length xs
  pub made : (h : PlaceAsks N starts listing counts) (pl : Place) (keep : Pair → Bool)
      → ((a b : ℕ) → keep (pair pl a b) ≡ keep_at chosen h.W h.c a b) → HandedOut keep (rows_to pl xs i) fs₀ ss₀ hits₀ fs ss hits
  pub few : hits + tri (length xs - i) ≤ hits₀ + tri (length xs)
  pub first_long : length fs ≡ length fs₀
  pub second_long : length ss ≡ length ss₀

pub rows_begin : {chosen : ℕ → ℕ → Bool} {N : ℕ} {xs starts listing counts fs ss : List ℕ} {hits : ℕ} → RowsAsk N xs starts listing counts hits
    → Rows chosen N xs starts listing counts fs ss hits fs ss hits 0
unfolding rows_to
rows_begin {xs = xs} a =
    let z : length xs - 0 ≡ length xs = omega arith in
    record { asks = a; at = omega arith; made = λ h pl keep k. grown_none; few = rw z (omega arith); first_long = refl; second_long = refl }

module _ {chosen : ℕ → ℕ → Bool} {N : ℕ} {xs starts listing counts fs₀ ss₀ : List ℕ} {hits₀ : ℕ} {fs ss : List ℕ} {hits i : ℕ}
    (s : Rows chosen N xs starts listing counts fs₀ ss₀ hits₀ fs ss hits i) where
  pub rows_done : length xs ≤ i → RowsDone chosen N starts listing counts xs fs₀ ss₀ hits₀ fs ss hits
  rows_done l =
      let e : i ≡ length xs = omega (arith, s.at) in
      record { made = λ h pl keep k. rw (e, rows_all) at (s.made h pl keep k); few = omega (arith, s.few) }

  module _ (l : i < length xs) where
    pub row_line : get_or xs i 0 < N
    row_line = below_at N xs i s.asks.below l

    left_is : tri (length xs - i) ≡ (length xs - (i + 1)) + tri (length xs - (i + 1))
    left_is = let e : length xs - i ≡ suc (length xs - (i + 1)) = omega arith in rw e (tri_suc (length xs - (i + 1)))

    module _ {head : ℕ} (e : head ≡ get_or xs i 0) where
      pub row_scan : {bs : List ℕ} → bs ≡ drop (i + 1) xs → ScanAsks N head bs starts listing counts hits
      row_scan q =
          rw q
          (record {
            place = s.asks.place;
            one = rw e row_line;
            below = below_drop N xs (i + 1) s.asks.below;
            small = omega (arith, s.few, s.asks.small, length-drop (i + 1) xs, left_is);
          })

      pub rows_next : {bs fs' ss' : List ℕ} {hits' : ℕ} → bs ≡ drop (i + 1) xs → RowHandedOut chosen N head starts listing counts bs fs ss hits fs' ss' hits'
          → length fs' ≡ length fs → length ss' ≡ length ss → Rows chosen N xs starts listing counts fs₀ ss₀ hits₀ fs' ss' hits' (i + 1)
      rows_next {bs} {fs'} {ss'} {hits'} q g₀ lf lg =
          let g : RowHandedOut chosen N head starts listing counts (drop (i + 1) xs) fs ss hits fs' ss' hits' = rw q at g₀ in
          let w = s.asks.place in
          let keep : Pair → Bool = λ p. keep_at chosen w.W w.c p.first p.second in
          let y : hits' ≡ hits + length (kept_by keep (with_each (Global 0) head (drop (i + 1) xs))) = (g w (Global 0) keep (λ b. refl)).hits_are in
          let f : hits' ≤ hits + length (drop (i + 1) xs) = omega (arith, kept_few keep (with_each (Global 0) head (drop (i + 1) xs)), length_with (Global 0) head (drop (i + 1) xs)) in
          record {
            asks = s.asks;
            at = omega arith;
            made = λ h pl keep k.
                rw (rows_more pl xs i l) at (grown_then (s.made h pl keep k) (rw e at (g h pl keep (λ b. k head b))));
            few = omega (arith, s.few, length-drop (i + 1) xs, left_is);
            first_long = lf ∙ s.first_long;
            second_long = lg ∙ s.second_long;
          }

-- a list of fewer than two entries has no test
pub rows_none : {chosen : ℕ → ℕ → Bool} {N : ℕ} {starts listing counts : List ℕ} (xs : List ℕ) {fs ss : List ℕ} {hits : ℕ} → length xs < 2
    → RowsDone chosen N starts listing counts xs fs ss hits fs ss hits
rows_none [] l = record { made = λ h pl keep k. rw pairs_nil grown_none; few = omega arith }
rows_none (a ∷ []) l = record { made = λ h pl keep k. rw (pairs_cons, with_nil, pairs_nil) grown_none; few = omega arith }
rows_none (a ∷ b ∷ bs) l = absurd (omega arith)

-- ---- cells

-- one cell more, at the end
pub cells_more : (cols : ℕ) (offsets items : List ℕ) (left c : ℕ)
    → cell_tests cols offsets items left c ++ pairs (place_of cols (c + left)) (list_in offsets items (c + left)) ≡ cell_tests cols offsets items (suc left) c
cells_more cols offsets items zero c = rw (cells_zero, cells_suc, cells_zero, append-nil, add-zero)
cells_more cols offsets items (suc left) c =
    let e : c + suc left ≡ suc c + left = omega arith in
    rw (e, cells_suc cols offsets items left c, cells_suc cols offsets items (suc left) c, append_assoc)
    (ap (λ (l : List Pair). pairs (place_of cols c) (list_in offsets items c) ++ l) (cells_more cols offsets items left (suc c)))

pub record Cells (chosen : ℕ → ℕ → Bool) (N m : ℕ) (offsets items starts listing counts₀ fs₀ ss₀ counts fs ss : List ℕ) (hits c : ℕ) : Type 0 where
  pub asks : CellsAsk N m offsets items starts listing counts₀
  pub at : c ≤ m
  pub made : (cols : ℕ) (keep : Pair → Bool) → ((k : ℕ) → k < c → (a b : ℕ) → keep (pair (place_of cols k) a b) ≡ keep_at chosen (list_in offsets items) k a b)
      → HandedOut keep (cell_tests cols offsets items c 0) fs₀ ss₀ 0 fs ss hits
  pub listed : Listed (list_in offsets items) m N starts listing c counts
  pub few : hits ≤ c * 2147450880
  pub counts_long : length counts ≡ length counts₀
  pub first_long : length fs ≡ length fs₀
  pub second_long : length ss ≡ length ss₀

pub cells_begin : {chosen : ℕ → ℕ → Bool} {N m : ℕ} {offsets items starts listing counts fs ss : List ℕ} → CellsAsk N m offsets items starts listing counts
    → Cells chosen N m offsets items starts listing counts fs ss counts fs ss 0 0
cells_begin {offsets = offsets} {items = items} a =
    record {
      asks = a;
      at = omega arith;
      made = λ cols keep k. rw (cells_zero cols offsets items 0) grown_none;
      listed = a.listed;
      few = omega arith;
      counts_long = refl;
      first_long = refl;
      second_long = refl;
    }

module _ {chosen : ℕ → ℕ → Bool} {N m : ℕ} {offsets items starts listing counts₀ fs₀ ss₀ counts fs ss : List ℕ} {hits c : ℕ}
    (s : Cells chosen N m offsets items starts listing counts₀ fs₀ ss₀ counts fs ss hits c) where
  pub cells_done : m ≤ c → CellsDone chosen N m offsets items starts listing counts fs₀ ss₀ fs ss hits
  cells_done l =
      let e : c ≡ m = omega (arith, s.at) in
      record { made = rw e at s.made; listed = rw e at s.listed; few = omega (arith, s.few, s.at, s.asks.few_cells) }

  module _ (l : c < m) {xs : List ℕ} (e : xs ≡ list_in offsets items c) where
    here : PlaceAsks N starts listing counts
    here = record { W = list_in offsets items; m = m; c = c; listed = s.listed }

    short : tri (length xs) ≤ 2147450880
    short =
        let w = s.asks.table.walks in
        let f : length xs ≤ 65536 = rw e (omega (arith, length_rising 0 N (list_in offsets items c) (omega arith) (w.rises c l) (w.below c l), s.asks.few_lines)) in
        omega (arith, tri_mono (length xs) 65536 f, tri_twice 65536)

    pub cell_rows : RowsAsk N xs starts listing counts hits
    cell_rows = record { place = here; below = rw e (s.asks.table.walks.below c l); small = omega (arith, short, s.few, s.asks.few_cells) }

    pub cell_counts : CanCount counts xs (length xs)
    cell_counts =
        record {
          W = list_in offsets items;
          lines = m;
          cells = N;
          i = c;
          line = line_of s.asks.table l e;
          room = s.listed.counts_long;
          counted = s.listed.counted;
        }

    pub cells_next : {counts' fs' ss' : List ℕ} {hits' : ℕ} → RowsDone chosen N starts listing counts xs fs ss hits fs' ss' hits'
        → ((h : CanCount counts xs (length xs)) → Counted (lines_at h.W (h.i + 1)) counts')
        → length counts' ≡ length counts → length fs' ≡ length fs → length ss' ≡ length ss
        → Cells chosen N m offsets items starts listing counts₀ fs₀ ss₀ counts' fs' ss' hits' (c + 1)
    unfolding here cell_counts
    cells_next {counts'} {fs'} {ss'} {hits'} d k lc lf lg =
        record {
          asks = s.asks;
          at = omega arith;
          made = λ cols keep q.
              let g : HandedOut keep (cell_tests cols offsets items c 0) fs₀ ss₀ 0 fs ss hits = s.made cols keep (λ k i a b. q k (omega arith) a b) in
              let r : HandedOut keep (pairs (place_of cols c) (list_in offsets items c)) fs ss hits fs' ss' hits' = rw e at (d.made here (place_of cols c) keep (λ a b. q c (omega arith) a b)) in
              let t : HandedOut keep (pairs (place_of cols (0 + c)) (list_in offsets items (0 + c))) fs ss hits fs' ss' hits' = rw (zero-add c) r in
              rw add-one (rw (cells_more cols offsets items c 0) at (grown_then g t));
          listed =
              record {
                table = s.listed.table;
                starts_long = s.listed.starts_long;
                listing_long = s.listed.listing_long;
                at_most = omega arith;
                counts_long = omega (arith, s.listed.counts_long);
                counted = k cell_counts;
              };
          few = omega (arith, s.few, d.few, short);
          counts_long = lc ∙ s.counts_long;
          first_long = lf ∙ s.first_long;
          second_long = lg ∙ s.second_long;
        }
