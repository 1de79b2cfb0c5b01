-- The test of tables is true exactly where the facts hold, and what the facts say besides. Assumes nothing.
use Rattle.std.specs.Prelude.{Ok}
use mathlib.Core.Path.{◌≡◌, refl}
use mathlib.Core.Bool.{Bool, true, false, ◌&&◌}
use mathlib.Core.List.{List, [], ◌∷◌}
use Prim.Native.Nat.{ℕ, zero, suc, ◌+◌, ◌-◌, ◌≤◌, ◌<◌}
use native.Mathlib.Nat.{sub-zero, zero-sub, suc-sub-suc}
use native.Mathlib.Omega.{arith}
use native.Mathlib.Decide.{ℕ_discrete}
use lib.ListN.{length, get_or, take, drop}
use lib.Seq.{slice, take-nil, drop-nil}
use lib.Dec.{leb, ltb, eqb}
use borrow.Author.Tests.{leb-true, ltb-true, eqb-true, le-leb, lt-ltb, eq-eqb}
use Rattle.refusals.proofs.Checks.{unless_fine}
use Rattle.grid.proofs.Bools.{and_left, and_right, and_both}
use Rattle.slices.specs.Lists.{Below, Rising}
use Rattle.tables.specs.Tables.{Tables, cells, list_in, globals_of}
use Rattle.tables.specs.Fit.{Increasing, ListsFit, TablesFit, increases, every, lists_fit, tables_fit, tables_check}

-- what is not true is false
pub not_true : (b : Bool) → (b ≡ true → ⊥) → b ≡ false
not_true true h = absurd (h refl)
not_true false h = refl

-- ---- one list

pub increases_rising : (low n : ℕ) (xs : List ℕ) → increases low n xs ≡ true → Rising low xs
unfolding increases
increases_rising low n [] h = tt
increases_rising low n (x ∷ xs) h = (
  leb-true low x (and_left (leb low x) (ltb x n && increases (suc x) n xs) h),
  increases_rising (suc x) n xs (and_right (ltb x n) (increases (suc x) n xs) (and_right (leb low x) (ltb x n && increases (suc x) n xs) h)),
)

pub increases_below : (low n : ℕ) (xs : List ℕ) → increases low n xs ≡ true → Below n xs
unfolding increases
increases_below low n [] h = tt
increases_below low n (x ∷ xs) h =
    let k = and_right (leb low x) (ltb x n && increases (suc x) n xs) h in (
      ltb-true x n (and_left (ltb x n) (increases (suc x) n xs) k),
      increases_below (suc x) n xs (and_right (ltb x n) (increases (suc x) n xs) k),
    )

rising_increases : (low n : ℕ) (xs : List ℕ) → Rising low xs → Below n xs → increases low n xs ≡ true
unfolding increases
rising_increases low n [] r b = refl
rising_increases low n (x ∷ xs) r b =
    rw (le-leb low x r.0, lt-ltb x n b.0) (rising_increases (suc x) n xs r.1 b.1)

pub increases_says : (n : ℕ) (xs : List ℕ) → increases 0 n xs ≡ true → Increasing n xs
increases_says n xs h = record { rises = increases_rising 0 n xs h; below = increases_below 0 n xs h }

pub says_increases : (n : ℕ) (xs : List ℕ) → Increasing n xs → increases 0 n xs ≡ true
says_increases n xs i = rising_increases 0 n xs i.rises i.below

-- ---- every cell

pub every_says : (m : ℕ) (f : ℕ → Bool) → every m f ≡ true → (c : ℕ) → c < m → f c ≡ true
unfolding every
every_says zero f h c l = absurd (omega arith)
every_says (suc m) f h c l = go (ℕ_discrete c m) (every_says m f (and_left (every m f) (f m) h) c)
  where
    go : Dec (c ≡ m) → (c < m → f c ≡ true) → f c ≡ true
    go (yes e) before = rw e (and_right (every m f) (f m) h)
    go (no e) before = before (omega arith)

pub says_every : (m : ℕ) (f : ℕ → Bool) → ((c : ℕ) → c < m → f c ≡ true) → every m f ≡ true
unfolding every
says_every zero f h = refl
says_every (suc m) f h = and_both (every m f) (f m) (says_every m f (λ c l. h c (omega arith))) (h m (omega arith))

-- ---- the lists

module _ (m n : ℕ) (offsets items : List ℕ) where
  zeroth : Bool
  zeroth = eqb (get_or offsets 0 0) 0

  up : Bool
  up = every m (λ c. leb (get_or offsets c 0) (get_or offsets (suc c) 0))

  last : Bool
  last = leb (get_or offsets m 0) (length items)

  each : Bool
  each = every m (λ c. increases 0 n (list_in offsets items c))

  pub lists_facts : lists_fit m n offsets items ≡ true → ListsFit m n offsets items
  unfolding lists_fit zeroth up last each
  lists_facts h =
      let a = and_right zeroth (up && (last && each)) h in
      let b = and_right up (last && each) a in
      record {
        first = eqb-true (get_or offsets 0 0) 0 (and_left zeroth (up && (last && each)) h);
        rises = λ c l. leb-true (get_or offsets c 0) (get_or offsets (suc c) 0) (every_says m (λ c. leb (get_or offsets c 0) (get_or offsets (suc c) 0)) (and_left up (last && each) a) c l);
        within = leb-true (get_or offsets m 0) (length items) (and_left last each b);
        lists = λ c l. increases_says n (list_in offsets items c) (every_says m (λ c. increases 0 n (list_in offsets items c)) (and_right last each b) c l);
      }

  pub facts_lists : ListsFit m n offsets items → lists_fit m n offsets items ≡ true
  unfolding lists_fit
  facts_lists f =
      rw (
        eq-eqb (get_or offsets 0 0) 0 f.first,
        says_every m (λ c. leb (get_or offsets c 0) (get_or offsets (suc c) 0)) (λ c l. le-leb (get_or offsets c 0) (get_or offsets (suc c) 0) (f.rises c l)),
        le-leb (get_or offsets m 0) (length items) f.within,
        says_every m (λ c. increases 0 n (list_in offsets items c)) (λ c l. says_increases n (list_in offsets items c) (f.lists c l)),
      )

  -- offsets that never fall and end within the items are all within them
  within_from : ListsFit m n offsets items → (d c : ℕ) → c + d ≡ m → get_or offsets c 0 ≤ length items
  within_from f zero c e = let z : c ≡ m = omega arith in rw z f.within
  within_from f (suc d) c e = omega (arith, f.rises c (omega arith), within_from f d (suc c) (omega arith))

  pub all_within : ListsFit m n offsets items → (c : ℕ) → c ≤ m → get_or offsets c 0 ≤ length items
  all_within f c l = within_from f (m - c) c (omega arith)

-- ---- the tables

module _ (t : Tables) where
  long : Bool
  long = leb (cells t + 1) (length t.offsets)

  listed : Bool
  listed = lists_fit (cells t) t.lines t.offsets t.items

  globe : Bool
  globe = increases 0 t.lines (globals_of t)

  within : Bool
  within = leb t.global_count (length t.globals)

  -- THE TEST SAYS THE FACTS
  pub fit_facts : tables_fit t ≡ true → TablesFit t
  unfolding tables_fit long listed globe within
  fit_facts h =
      let a = and_right long (listed && (globe && within)) h in
      let b = and_right listed (globe && within) a in
      record {
        long = leb-true (cells t + 1) (length t.offsets) (and_left long (listed && (globe && within)) h);
        lists = lists_facts (cells t) t.lines t.offsets t.items (and_left listed (globe && within) a);
        globals = increases_says t.lines (globals_of t) (and_left globe within b);
        counted = leb-true t.global_count (length t.globals) (and_right globe within b);
      }

  -- ... AND THE FACTS THE TEST
  pub facts_fit : TablesFit t → tables_fit t ≡ true
  unfolding tables_fit
  facts_fit f =
      rw (
        le-leb (cells t + 1) (length t.offsets) f.long,
        facts_lists (cells t) t.lines t.offsets t.items f.lists,
        says_increases t.lines (globals_of t) f.globals,
        le-leb t.global_count (length t.globals) f.counted,
      )

  -- a check that finds nothing
  pub check_facts : tables_check t ≡ (Ok tt) → TablesFit t
  unfolding tables_check
  check_facts h = fit_facts (unless_fine (tables_fit t) 10 0 h)

  pub facts_check : TablesFit t → tables_check t ≡ Ok tt
  unfolding tables_check Rattle.refusals.specs.Refusals.unless
  facts_check f = rw (facts_fit f)

-- a part that is lent is the slice
pub part_slice : (f t : ℕ) (l : List ℕ) → take (t - f) (drop f l) ≡ slice f t l
part_slice zero t l = rw sub-zero
part_slice (suc f) zero l = rw (zero-sub, drop-nil)
part_slice (suc f) (suc t) [] = take-nil (suc t - suc f)
part_slice (suc f) (suc t) (x ∷ l) = rw suc-sub-suc (part_slice f t l)
