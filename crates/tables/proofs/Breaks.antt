-- The check of the lists: lists laid end to end all increase below a number exactly where the breaks are as many as the lists that begin with one
-- whose entry is below it. List by list the begins are no more than the breaks, and as many exactly where the list increases. Assumes nothing.
use mathlib.Core.Path.{◌≡◌, refl, sym, ap, ◌∙◌}
use mathlib.Core.Bool.{Bool, true, false, cond, ◌&&◌, ◌||◌}
use mathlib.Core.List.{List, [], ◌∷◌}
use Prim.Native.Nat.{ℕ, zero, suc, ◌+◌, ◌-◌, ◌^◌, ◌≤◌, ◌<◌}
use native.Mathlib.Numerals.{add-one}
use native.Mathlib.Decide.{ℕ_discrete}
use native.Mathlib.Omega.{arith}
use lib.ListN.{length, get_or}
use lib.Seq.{slice, slice_empty, slice-cons, length-slice}
use lib.Dec.{leb, ltb, eqb}
use borrow.Author.Tests.{leb-true, leb-false, ltb-true, ltb-false, eqb-true, eqb-false, le-leb, lt-leb, lt-ltb, le-ltb, eq-eqb, ne_eqb}
use Rattle.grid.proofs.Bools.{and_left, and_right}
use Rattle.tables.specs.Tables.{list_in}
use Rattle.tables.specs.Fit.{increases, every}
use Rattle.tables.specs.Lists.{sum}
use Rattle.tables.specs.Inside.{falls_at, break_at, begin_of, begin_by, begin_at, one_at_least, LaidOut, BeginsAsk, BreaksTo, BreaksMore, BeginsTo, BeginsMore}
use Rattle.tables.proofs.Facts.{not_true, every_says, says_every}
use Rattle.tables.proofs.Climbing.{none_increase}

-- ---- numbers

one_more : (q : ℕ) → eqb (1 + q) 1 ≡ eqb q 0
one_more zero = refl
one_more (suc q) = ne_eqb (1 + suc q) 1 (λ e. omega arith) ∙ sym (ne_eqb (suc q) 0 (λ e. omega arith))

some_more : (q : ℕ) → eqb (1 + q) 0 ≡ false
some_more q = ne_eqb (1 + q) 0 (λ e. omega arith)

none_more : (q : ℕ) → eqb (0 + q) 0 ≡ eqb q 0
none_more q = let z : 0 + q ≡ q = omega arith in ap (λ (t : ℕ). eqb t 0) z

pub one_at_most : (b : Bool) → cond b 1 0 ≤ 1
one_at_most true = omega arith
one_at_most false = omega arith

-- two sums of two are equal exactly where their parts are, if no part of the one is below that of the other
parts_equal : (a b p q : ℕ) → b ≤ a → q ≤ p → eqb (a + p) (b + q) ≡ (eqb a b && eqb p q)
parts_equal a b p q h k = go (eqb a b) (eqb p q) refl refl
  where
    go : (s t : Bool) → eqb a b ≡ s → eqb p q ≡ t → eqb (a + p) (b + q) ≡ (s && t)
    go true true e f = eq-eqb (a + p) (b + q) (omega (arith, eqb-true a b e, eqb-true p q f))
    go true false e f = ne_eqb (a + p) (b + q) (λ z. eqb-false p q f (omega (arith, eqb-true a b e)))
    go false t e f = ne_eqb (a + p) (b + q) (λ z. eqb-false a b e (omega arith))

-- an entry x after p: it goes on with the list, and no break follows
goes_on : (p x most q : ℕ) → (leb (suc p) x && (leb x most && eqb q 0)) ≡ eqb (cond (leb x p || ltb most x) 1 0 + q) 0
goes_on p x most q = go (leb x p) (leb x most) refl refl
  where
    go : (s t : Bool) → leb x p ≡ s → leb x most ≡ t → (leb (suc p) x && (leb x most && eqb q 0)) ≡ eqb (cond (leb x p || ltb most x) 1 0 + q) 0
    go true t e f = rw (e, lt-leb (suc p) x (omega (arith, leb-true x p e))) (sym (some_more q))
    go false true e f = rw (e, f, le-leb (suc p) x (omega (arith, leb-false x p e)), le-ltb most x (leb-true x most f)) (sym (none_more q))
    go false false e f = rw (e, f, le-leb (suc p) x (omega (arith, leb-false x p e)), lt-ltb most x (leb-false x most f)) (sym (some_more q))

-- the entry x that a list begins with, which falls or not, and no break follows
begins_so : (falls : Bool) (x most q : ℕ) → eqb (cond (falls || ltb most x) 1 0 + q) (cond (falls && leb x most) 1 0) ≡ (leb x most && eqb q 0)
begins_so falls x most q = go falls (leb x most) refl
  where
    go : (s t : Bool) → leb x most ≡ t → eqb (cond (s || ltb most x) 1 0 + q) (cond (s && leb x most) 1 0) ≡ (leb x most && eqb q 0)
    go true true f = rw f (one_more q)
    go true false f = rw f (some_more q)
    go false true f = rw (f, le-ltb most x (leb-true x most f)) (none_more q)
    go false false f = rw (f, lt-ltb most x (leb-false x most f)) (some_more q)

begin_few : (falls : Bool) (x most q : ℕ) → cond (falls && leb x most) 1 0 ≤ cond (falls || ltb most x) 1 0 + q
begin_few true x most q = go (leb x most)
  where
    go : (t : Bool) → cond t 1 0 ≤ 1 + q
    go true = omega arith
    go false = omega arith
begin_few false x most q = omega arith

-- ---- one list

module _ (most : ℕ) (xs : List ℕ) where
  -- the breaks of d entries from entry k on
  breaks_from : ℕ → ℕ → ℕ
  breaks_from k zero = 0
  breaks_from k (suc d) = break_at most xs k + breaks_from (suc k) d

  sum_more : (k d : ℕ) → sum (break_at most xs) (k + d) ≡ sum (break_at most xs) k + breaks_from k d
  unfolding sum breaks_from
  sum_more k zero = let e : k + 0 ≡ k = omega arith in rw e (omega arith)
  sum_more k (suc d) =
      let e : k + suc d ≡ suc k + d = omega arith in
      ap (sum (break_at most xs)) e ∙ omega (arith, sum_more (suc k) d)

  -- n is the number that entries have to be below, and most the greatest that is
  module _ (n : ℕ) (cut : (j : ℕ) → j < length xs → ltb (get_or xs j 0) n ≡ leb (get_or xs j 0) most) where
    climbs : (k d : ℕ) → 0 < k → k + d ≤ length xs → increases (suc (get_or xs (k - 1) 0)) n (slice k (k + d) xs) ≡ eqb (breaks_from k d) 0
    unfolding increases breaks_from break_at
    climbs k zero h l = let e : k + 0 ≡ k = omega arith in rw (e, slice_empty k xs)
    climbs k (suc d) h l =
        let e : k + suc d ≡ suc k + d = omega arith in
        let z : suc k - 1 ≡ k = omega arith in
        let ih : increases (suc (get_or xs k 0)) n (slice (suc k) (suc k + d) xs) ≡ eqb (breaks_from (suc k) d) 0 = rw z at (climbs (suc k) d (omega arith) (omega arith)) in
        rw (e, slice-cons k (suc k + d) xs 0 (omega arith) (omega arith), cut k (omega arith), ih) (goes_on (get_or xs (k - 1) 0) (get_or xs k 0) most (breaks_from (suc k) d))

    list_same : (k d : ℕ) → k + d ≤ length xs → eqb (breaks_from k d) (begin_by most xs k (k + d)) ≡ increases 0 n (slice k (k + d) xs)
    unfolding increases breaks_from break_at begin_by
    list_same k zero l = let e : k + 0 ≡ k = omega arith in rw (e, slice_empty k xs, le-ltb k k (omega arith))
    list_same k (suc d) l =
        let e : k + suc d ≡ suc k + d = omega arith in
        let z : suc k - 1 ≡ k = omega arith in
        let r : increases (suc (get_or xs k 0)) n (slice (suc k) (suc k + d) xs) ≡ eqb (breaks_from (suc k) d) 0 = rw z at (climbs (suc k) d (omega arith) (omega arith)) in
        rw (e, slice-cons k (suc k + d) xs 0 (omega arith) (omega arith), lt-ltb k (suc k + d) (omega arith), le-leb 0 (get_or xs k 0) (omega arith), cut k (omega arith), r)
        (begins_so (falls_at xs k) (get_or xs k 0) most (breaks_from (suc k) d))

  list_few : (k d : ℕ) → begin_by most xs k (k + d) ≤ breaks_from k d
  unfolding breaks_from break_at begin_by
  list_few k zero = let e : k + 0 ≡ k = omega arith in rw (e, le-ltb k k (omega arith)) (omega arith)
  list_few k (suc d) = rw (lt-ltb k (k + suc d) (omega arith)) (begin_few (falls_at xs k) (get_or xs k 0) most (breaks_from (suc k) d))

-- ---- all lists

module _ (most : ℕ) (offsets xs : List ℕ) where
  abbrev Rises : ℕ → Type 0
  Rises m = (c : ℕ) → c < m → get_or offsets c 0 ≤ get_or offsets (suc c) 0

  -- the list of cell m, from its offset on
  module _ (m : ℕ) (r : get_or offsets m 0 ≤ get_or offsets (suc m) 0) where
    many : ℕ
    many = breaks_from most xs (get_or offsets m 0) (get_or offsets (suc m) 0 - get_or offsets m 0)

    reach : get_or offsets m 0 + (get_or offsets (suc m) 0 - get_or offsets m 0) ≡ get_or offsets (suc m) 0
    reach = omega arith

    more : sum (break_at most xs) (get_or offsets (suc m) 0) ≡ sum (break_at most xs) (get_or offsets m 0) + many
    unfolding many
    more = rw reach at (sum_more most xs (get_or offsets m 0) (get_or offsets (suc m) 0 - get_or offsets m 0))

    few : begin_at most offsets xs m ≤ many
    unfolding many
    few = rw reach at (list_few most xs (get_or offsets m 0) (get_or offsets (suc m) 0 - get_or offsets m 0))

  begins_few : (m : ℕ) → Rises m → sum (begin_at most offsets xs) m ≤ sum (break_at most xs) (get_or offsets m 0)
  unfolding sum
  begins_few zero r = omega arith
  begins_few (suc m) r = omega (arith, begins_few m (λ c l. r c (omega arith)), more m (r m (omega arith)), few m (r m (omega arith)))

  module _ (n : ℕ) (cut : (j : ℕ) → j < length xs → ltb (get_or xs j 0) n ≡ leb (get_or xs j 0) most) where
    same : (m : ℕ) (r : get_or offsets m 0 ≤ get_or offsets (suc m) 0) → get_or offsets (suc m) 0 ≤ length xs
        → eqb (many m r) (begin_at most offsets xs m) ≡ increases 0 n (list_in offsets xs m)
    unfolding many
    same m r l = rw (reach m r) at (list_same most xs n cut (get_or offsets m 0) (get_or offsets (suc m) 0 - get_or offsets m 0) (omega arith))

    all_same : (m : ℕ) → get_or offsets 0 0 ≡ 0 → Rises m → ((c : ℕ) → c ≤ m → get_or offsets c 0 ≤ length xs)
        → eqb (sum (break_at most xs) (get_or offsets m 0)) (sum (begin_at most offsets xs) m) ≡ every m (λ c. increases 0 n (list_in offsets xs c))
    unfolding sum every
    all_same zero z r w = rw z
    all_same (suc m) z r w =
        let rm = r m (omega arith) in
        ap (λ (t : ℕ). eqb t (sum (begin_at most offsets xs) m + begin_at most offsets xs m)) (more m rm)
        ∙ parts_equal (sum (break_at most xs) (get_or offsets m 0)) (sum (begin_at most offsets xs) m) (many m rm) (begin_at most offsets xs m) (begins_few m (λ c l. r c (omega arith))) (few m rm)
        ∙ rw (all_same m z (λ c l. r c (omega arith)) (λ c l. w c (omega arith)), same m rm (w (suc m) (omega arith)))

-- what is below 0 has no entry
below_none : (xs : List ℕ) → increases 0 0 xs ≡ true → length xs ≡ 0
unfolding increases
below_none [] h = refl
below_none (x ∷ xs) h = absurd (omega (arith, ltb-true x 0 (and_left (ltb x 0) (increases (suc x) 0 xs) (and_right (leb 0 x) (ltb x 0 && increases (suc x) 0 xs) h))))

-- ---- lists that are laid out

module _ (m : ℕ) (offsets xs : List ℕ) (laid : LaidOut m offsets xs) where
  climbs_by : (d c : ℕ) → c + d ≤ m → get_or offsets c 0 ≤ get_or offsets (c + d) 0
  climbs_by zero c l = let e : c + 0 ≡ c = omega arith in rw e (omega arith)
  climbs_by (suc d) c l =
      let e : c + suc d ≡ suc (c + d) = omega arith in
      rw e (omega (arith, climbs_by d c (omega arith), laid.rises (c + d) (omega arith)))

  pub laid_climbs : (c d : ℕ) → c ≤ d → d ≤ m → get_or offsets c 0 ≤ get_or offsets d 0
  laid_climbs c d h k = let e : c + (d - c) ≡ d = omega arith in rw e at (climbs_by (d - c) c (omega arith))

  pub laid_within : (c : ℕ) → c ≤ m → get_or offsets c 0 ≤ length xs
  laid_within c l = omega (arith, laid_climbs c m l (omega arith), laid.last)

  -- a list begins at an item, where there is one
  pub begin_inside : 0 < length xs → (c : ℕ) → c < m → begin_of (get_or offsets c 0) (get_or offsets (suc c) 0) < length xs
  begin_inside h c l = go (ltb (get_or offsets c 0) (get_or offsets (suc c) 0)) refl
    where
      go : (b : Bool) → ltb (get_or offsets c 0) (get_or offsets (suc c) 0) ≡ b → begin_of (get_or offsets c 0) (get_or offsets (suc c) 0) < length xs
      go true e = rw e (omega (arith, ltb-true (get_or offsets c 0) (get_or offsets (suc c) 0) e, laid_within (suc c) l))
      go false e = rw e h

  -- THE BREAKS ARE AS MANY AS THE BEGINS exactly where each list increases
  pub all_rise : (most n : ℕ) → ((j : ℕ) → j < length xs → ltb (get_or xs j 0) n ≡ leb (get_or xs j 0) most)
      → eqb (sum (break_at most xs) (length xs)) (sum (begin_at most offsets xs) m) ≡ every m (λ c. increases 0 n (list_in offsets xs c))
  all_rise most n cut =
      ap (λ (t : ℕ). eqb (sum (break_at most xs) t) (sum (begin_at most offsets xs) m)) (sym laid.last)
      ∙ all_same most offsets xs n cut m laid.first laid.rises laid_within

  -- no items
  pub none_rise : (n : ℕ) → length xs ≡ 0 → true ≡ every m (λ c. increases 0 n (list_in offsets xs c))
  none_rise n h = sym (says_every m (λ c. increases 0 n (list_in offsets xs c)) (λ c l. sym (none_increase n (list_in offsets xs c) (omega (arith, length-slice (get_or offsets c 0) (get_or offsets (suc c) 0) xs (laid_within (suc c) l), laid_within (suc c) l)))))

  -- items, and no number below which they could be
  pub no_lines : (n : ℕ) → n ≡ 0 → 0 < length xs → false ≡ every m (λ c. increases 0 n (list_in offsets xs c))
  no_lines n z h = rw z (sym (not_true (every m (λ c. increases 0 0 (list_in offsets xs c))) (λ e. omega (arith, laid.last, all_empty e m (omega arith)))))
    where
      all_empty : every m (λ c. increases 0 0 (list_in offsets xs c)) ≡ true → (c : ℕ) → c ≤ m → get_or offsets c 0 ≡ 0
      all_empty e zero l = laid.first
      all_empty e (suc c) l =
          omega (
            arith,
            all_empty e c (omega arith),
            length-slice (get_or offsets c 0) (get_or offsets (suc c) 0) xs (laid_within (suc c) l),
            below_none (list_in offsets xs c) (every_says m (λ c. increases 0 0 (list_in offsets xs c)) e c l),
          )

-- an entry is below n exactly where it is at most the greatest number of 32 bits that is
pub cut_at : (n most x : ℕ) → 0 < n → x < 4294967296 → most ≡ cond (ltb (n - 1) 4294967295) (n - 1) 4294967295 → ltb x n ≡ leb x most
cut_at n most x h k e = go (ltb (n - 1) 4294967295) refl
  where
    by : (t : ℕ) → most ≡ t → (x < n → x ≤ t) → (n ≤ x → t < x) → ltb x n ≡ leb x most
    by t f a b = rw f (at (ltb x n) refl)
      where
        at : (s : Bool) → ltb x n ≡ s → ltb x n ≡ leb x t
        at true g = g ∙ sym (le-leb x t (a (ltb-true x n g)))
        at false g = g ∙ sym (lt-leb x t (b (ltb-false x n g)))

    go : (s : Bool) → ltb (n - 1) 4294967295 ≡ s → ltb x n ≡ leb x most
    go true f = by (n - 1) (e ∙ rw f) (λ l. omega arith) (λ l. omega arith)
    go false f = by 4294967295 (e ∙ rw f) (λ l. omega arith) (λ l. omega (arith, ltb-false (n - 1) 4294967295 f))

-- ---- the turns of the loops

pub record OffsetsSeen (m : ℕ) (o : List ℕ) (all : Bool) (c : ℕ) : Type 0 where
  pub long : m < length o
  pub at : c ≤ m
  pub says : all ≡ every c (λ c. leb (get_or o c 0) (get_or o (suc c) 0))

module _ (m : ℕ) (o : List ℕ) where
  pub offsets_none : m < length o → OffsetsSeen m o true 0
  unfolding every
  offsets_none l = record { long = l; at = omega arith; says = refl }

  pub offsets_more : (all : Bool) (c : ℕ) → c < m → OffsetsSeen m o all c → OffsetsSeen m o (all && leb (get_or o c 0) (get_or o (c + 1) 0)) (c + 1)
  unfolding every
  offsets_more all c l s = record { long = s.long; at = omega arith; says = rw (add-one, ← s.says) }

  pub offsets_all : (all : Bool) (c : ℕ) → m ≤ c → OffsetsSeen m o all c → all ≡ every m (λ c. leb (get_or o c 0) (get_or o (suc c) 0))
  offsets_all all c l s = let e : c ≡ m = omega (arith, s.at) in rw (← e) s.says

module _ (most : ℕ) (xs : List ℕ) where
  pub breaks_first : 0 < length xs → length xs < 2 ^ 32 → BreaksTo most xs 1 1
  unfolding sum break_at
  breaks_first h l = record { begun = omega arith; within = omega arith; small = l; is = rw (le-leb (get_or xs 0 0) (get_or xs 0 0) (omega arith)); few = omega arith }

  pub breaks_more : (many k to one : ℕ) → k < to → one ≡ cond (leb (get_or xs k 0) (get_or xs (k - 1) 0) || ltb most (get_or xs k 0)) 1 0
      → BreaksMore most xs many k to → BreaksMore most xs (many + one) (k + 1) to
  unfolding sum break_at
  breaks_more many k to one h e s =
      record {
        seen = record {
          begun = omega arith;
          within = omega (arith, s.inside);
          small = s.seen.small;
          is = rw (add-one, e, s.seen.is);
          few = omega (arith, s.seen.few, e, one_at_most (leb (get_or xs k 0) (get_or xs (k - 1) 0) || ltb most (get_or xs k 0)));
        };
        up = omega arith;
        inside = s.inside;
      }

  pub breaks_all : (many k to : ℕ) → to ≤ k → BreaksMore most xs many k to → BreaksTo most xs many to
  breaks_all many k to l s = let e : k ≡ to = omega (arith, s.up) in rw (← e) s.seen

module _ (most m : ℕ) (o xs : List ℕ) where
  pub begins_none : BeginsAsk m o xs → BeginsTo most m o xs 0 0
  unfolding sum
  begins_none h = record { asks = h; at = omega arith; is = refl; few = omega arith }

  pub begins_more : (many c to one : ℕ) → c < to → one ≡ begin_by most xs (get_or o c 0) (get_or o (c + 1) 0) → BeginsMore most m o xs many c to → BeginsMore most m o xs (many + one) (c + 1) to
  unfolding sum begin_by
  begins_more many c to one h e s =
      record {
        seen = record {
          asks = s.seen.asks;
          at = omega (arith, s.inside);
          is = rw (e, s.seen.is, add-one);
          few = omega (arith, s.seen.few, e, one_at_most (ltb (get_or o c 0) (get_or o (c + 1) 0) && (falls_at xs (begin_of (get_or o c 0) (get_or o (c + 1) 0)) && leb (get_or xs (begin_of (get_or o c 0) (get_or o (c + 1) 0)) 0) most)));
        };
        up = omega arith;
        inside = s.inside;
      }

  pub begins_all : (many c to : ℕ) → to ≤ c → BeginsMore most m o xs many c to → BeginsTo most m o xs many to
  begins_all many c to l s = let e : c ≡ to = omega (arith, s.up) in rw (← e) s.seen

-- ---- blocks of cells

pub one_some : (n : ℕ) → 0 < n → one_at_least n ≡ n
unfolding one_at_least
one_some n h = rw (ne_eqb n 0 (λ e. omega arith))

pub one_none : (n : ℕ) → n ≡ 0 → one_at_least n ≡ 1
unfolding one_at_least
one_none n h = rw (eq-eqb n 0 h)

one_up : (a b : ℕ) → a ≤ b → one_at_least a ≤ one_at_least b
one_up a b h = go (ℕ_discrete a 0) (ℕ_discrete b 0)
  where
    go : Dec (a ≡ 0) → Dec (b ≡ 0) → one_at_least a ≤ one_at_least b
    go (yes e) (yes f) = omega (arith, one_none a e, one_none b f)
    go (yes e) (no f) = omega (arith, one_none a e, one_some b (omega (arith, f)))
    go (no e) (yes f) = absurd (e (omega arith))
    go (no e) (no f) = omega (arith, one_some a (omega (arith, e)), one_some b (omega (arith, f)))

one_within : (n l : ℕ) → n ≤ l → 0 < l → one_at_least n ≤ l
one_within n l h k = omega (arith, one_up n l h, one_some l k)

-- the cells before `cell`, and the entries before k, were looked at
pub record BlocksSeen (most m : ℕ) (o xs : List ℕ) (breaks begins cell k : ℕ) : Type 0 where
  pub lists : BeginsTo most m o xs begins cell
  pub entries : BreaksTo most xs breaks k
  pub reach : k ≡ one_at_least (get_or o cell 0)

module _ (most m : ℕ) (o xs : List ℕ) where
  pub blocks_none : BeginsAsk m o xs → BlocksSeen most m o xs 1 0 0 1
  blocks_none h =
      record {
        lists = begins_none most m o xs h;
        entries = breaks_first most xs h.some h.laid.small;
        reach = sym (one_none (get_or o 0 0) h.laid.first);
      }

  -- the block from `cell` to before `next`
  module _ {breaks begins cell k next to : ℕ} (s : BlocksSeen most m o xs breaks begins cell k) (up : cell ≤ next) (inside : next ≤ m) (e : to ≡ one_at_least (get_or o next 0)) where
    pub block_entries : BreaksMore most xs breaks k to
    block_entries =
        record {
          seen = s.entries;
          up = omega (arith, s.reach, e, one_up (get_or o cell 0) (get_or o next 0) (laid_climbs m o xs s.lists.asks.laid cell next up inside));
          inside = omega (arith, e, one_within (get_or o next 0) (length xs) (laid_within m o xs s.lists.asks.laid next inside) s.lists.asks.some);
        }

    pub block_lists : BeginsMore most m o xs begins cell next
    block_lists = record { seen = s.lists; up = up; inside = inside }

    pub block_seen : {breaks' begins' : ℕ} → BreaksTo most xs breaks' to → BeginsTo most m o xs begins' next → BlocksSeen most m o xs breaks' begins' next to
    block_seen a b = record { lists = b; entries = a; reach = e }

  pub blocks_all : {breaks begins cell k : ℕ} → m ≤ cell → BlocksSeen most m o xs breaks begins cell k
      → (breaks ≡ sum (break_at most xs) (length xs)) × (begins ≡ sum (begin_at most o xs) m)
  blocks_all {breaks} {begins} {cell} {k} l s =
      let laid = s.lists.asks.laid in
      let z : cell ≡ m = omega (arith, s.lists.at) in
      let r : get_or o cell 0 ≡ length xs = ap (λ (c : ℕ). get_or o c 0) z ∙ laid.last in
      let q : k ≡ length xs = s.reach ∙ ap one_at_least r ∙ one_some (length xs) s.lists.asks.some in
      (rw (← q) s.entries.is, rw (← z) s.lists.is)
