-- What the lists hold: the list of a cell is increasing, and has exactly the lines that visit it and are not global; the global lines are the
-- others. Over any walk. Assumes nothing.
use mathlib.Core.Path.{◌≡◌, refl, ◌∙◌, fun_ext}
use mathlib.Core.Bool.{Bool, true, false, not, ◌&&◌, ◌||◌}
use mathlib.Core.List.{List, [], ◌∷◌, ◌++◌, append-nil}
use Prim.Native.Nat.{ℕ, zero, suc, ◌+◌, ◌≤◌, ◌<◌}
use native.Mathlib.Decide.{dec_lt, ℕ_discrete}
use native.Mathlib.Nat.{le_refl}
use native.Mathlib.Numerals.{add-one}
use native.Mathlib.Omega.{arith}
use borrow.Author.Tests.{leb-true, leb-false, le-leb, lt-leb, lt-ltb, le-ltb, eq-eqb, ne_eqb}
use lib.Dec.{eqb, ltb, leb}
use lib.ListN.{length}
use Rattle.slices.specs.Lists.{elem, Below, Rising}
use Rattle.slices.proofs.Members.{any_append, below_append}
use Rattle.tables.specs.Lists.{Walks, long, local, only, lines_at, local_lines, global_lines, sum}
use Rattle.tables.proofs.Laws.{sum_most, cells_few}

-- ---- a line is global, or its cells count

pub local_long : (W : ℕ → List ℕ) (i : ℕ) → long (W i) ≡ true → local W i ≡ []
unfolding local
local_long W i h = rw h

pub local_short : (W : ℕ → List ℕ) (i : ℕ) → long (W i) ≡ false → local W i ≡ W i
unfolding local
local_short W i h = rw h

pub long_says : (xs : List ℕ) → long xs ≡ true → 2048 < length xs
unfolding long
long_says xs h = leb-true 2049 (length xs) h

pub short_says : (xs : List ℕ) → long xs ≡ false → length xs ≤ 2048
unfolding long
short_says xs h = omega (arith, leb-false 2049 (length xs) h)

-- a line is global, or visits at most 2,048 cells
pub short_is : (xs : List ℕ) → not (long xs) ≡ leb (length xs) 2048
unfolding long
short_is xs = go (dec_lt 2048 (length xs))
  where
    go : Dec (2048 < length xs) → not (leb 2049 (length xs)) ≡ leb (length xs) 2048
    go (yes l) = rw (le-leb 2049 (length xs) l, lt-leb (length xs) 2048 l)
    go (no l) = let k : length xs ≤ 2048 = omega arith in rw (lt-leb 2049 (length xs) (omega arith), le-leb (length xs) 2048 k)

-- by cases on whether a line is global
local_cases : (P : List ℕ → Type 0) (W : ℕ → List ℕ) (i : ℕ) → P [] → (length (W i) ≤ 2048 → P (W i)) → P (local W i)
local_cases P W i none some = go (long (W i)) refl
  where
    go : (b : Bool) → long (W i) ≡ b → P (local W i)
    go true e = rw (local_long W i e) none
    go false e = rw (local_short W i e) (some (short_says (W i) e))

pub local_few : (W : ℕ → List ℕ) (i : ℕ) → length (local W i) ≤ 2048
local_few W i = local_cases (λ xs. length xs ≤ 2048) W i (omega arith) (λ h. h)

pub local_walks : (W : ℕ → List ℕ) (n cells : ℕ) → Walks W n cells → Walks (local W) n cells
local_walks W n cells h =
    record {
      rises = λ i l. local_cases (λ xs. Rising 0 xs) W i tt (λ _. h.rises i l);
      below = λ i l. local_cases (λ xs. Below cells xs) W i tt (λ _. h.below i l);
    }

-- ---- one more line

pub list_none : (W : ℕ → List ℕ) (i : ℕ) → W i ≡ [] → lines_at W i ≡ lines_at W (i + 1)
unfolding lines_at
list_none W i h = fun_ext (λ c. rw (add-one, h, append-nil))

pub globals_more : (W : ℕ → List ℕ) (i : ℕ) → long (W i) ≡ true → global_lines W (i + 1) ≡ global_lines W i ++ (i ∷ [])
unfolding global_lines
globals_more W i h = rw (add-one, h)

pub globals_same : (W : ℕ → List ℕ) (i : ℕ) → long (W i) ≡ false → global_lines W (i + 1) ≡ global_lines W i
unfolding global_lines
globals_same W i h = rw (add-one, h, append-nil)

-- ---- a list that grows by its own place, where a test holds: increasing, below its end, with exactly those that pass

-- both kinds of list grow so
grown : (ℕ → Bool) → ℕ → List ℕ
grown p zero = []
grown p (suc i) = grown p i ++ only (p i) i

below_more : (n : ℕ) (xs : List ℕ) → Below n xs → Below (suc n) xs
below_more n [] h = tt
below_more n (x ∷ xs) h = (omega arith, below_more n xs h.1)

pub rising_end : (low n : ℕ) (xs : List ℕ) → Rising low xs → Below n xs → low ≤ n → Rising low (xs ++ (n ∷ []))
rising_end low n [] h b l = (l, tt)
rising_end low n (x ∷ xs) h b l = (h.0, rising_end (suc x) n xs h.1 b.1 (omega arith))

grown_below : (p : ℕ → Bool) (n : ℕ) → Below n (grown p n)
unfolding grown
grown_below p zero = tt
grown_below p (suc i) = go (below_more i (grown p i) (grown_below p i)) (p i)
  where
    go : Below (suc i) (grown p i) → (b : Bool) → Below (suc i) (grown p i ++ only b i)
    go ih true = below_append (suc i) (grown p i) (i ∷ []) ih (omega arith, tt)
    go ih false = rw append-nil ih

grown_rising : (p : ℕ → Bool) (n : ℕ) → Rising 0 (grown p n)
unfolding grown
grown_rising p zero = tt
grown_rising p (suc i) = go (grown_rising p i) (p i)
  where
    go : Rising 0 (grown p i) → (b : Bool) → Rising 0 (grown p i ++ only b i)
    go ih true = rising_end 0 i (grown p i) ih (grown_below p i) (omega arith)
    go ih false = rw append-nil ih

elem_only : (b : Bool) (k i : ℕ) → elem k (only b i) ≡ (eqb k i && b)
elem_only true k i = go (eqb k i)
  where
    go : (b : Bool) → (b || false) ≡ (b && true)
    go true = refl
    go false = refl
elem_only false k i = go (eqb k i)
  where
    go : (b : Bool) → false ≡ (b && false)
    go true = refl
    go false = refl

grown_elem : (p : ℕ → Bool) (n k : ℕ) → elem k (grown p n) ≡ (ltb k n && p k)
unfolding grown
grown_elem p zero k = rw (le-ltb k 0 (omega arith))
grown_elem p (suc i) k = any_append (eqb k) (grown p i) (only (p i) i) ∙ rw (grown_elem p i k, elem_only (p i) k i) (go (ℕ_discrete k i))
  where
    or_false : (b : Bool) → (b || false) ≡ b
    or_false true = refl
    or_false false = refl

    rest : Dec (k < i) → (k ≡ i → ⊥) → ((ltb k i && p k) || false) ≡ (ltb k (suc i) && p k)
    rest (yes l) d = rw (lt-ltb k i l, lt-ltb k (suc i) (omega arith)) (or_false (p k))
    rest (no l) d = rw (le-ltb k i (omega arith), le-ltb k (suc i) (omega arith))

    go : Dec (k ≡ i) → ((ltb k i && p k) || (eqb k i && p i)) ≡ (ltb k (suc i) && p k)
    go (yes e) = rw (e, le-ltb i i (omega arith), eq-eqb i i refl, lt-ltb i (suc i) (omega arith))
    go (no d) = rw (ne_eqb k i d) (rest (dec_lt k i) d)

-- ---- the list of a cell, and the global lines

list_grown : (W : ℕ → List ℕ) (n c : ℕ) → lines_at W n c ≡ grown (λ i. elem c (W i)) n
unfolding lines_at grown
list_grown W zero c = refl
list_grown W (suc n) c = rw (list_grown W n c)

globals_grown : (W : ℕ → List ℕ) (n : ℕ) → global_lines W n ≡ grown (λ i. long (W i)) n
unfolding global_lines grown
globals_grown W zero = refl
globals_grown W (suc n) = rw (globals_grown W n)

module _ (W : ℕ → List ℕ) (n : ℕ) where
  pub lines_rising : (c : ℕ) → Rising 0 (lines_at W n c)
  lines_rising c = rw (list_grown W n c) (grown_rising (λ i. elem c (W i)) n)

  pub lines_below : (c : ℕ) → Below n (lines_at W n c)
  lines_below c = rw (list_grown W n c) (grown_below (λ i. elem c (W i)) n)

  pub globals_rising : Rising 0 (global_lines W n)
  globals_rising = rw (globals_grown W n) (grown_rising (λ i. long (W i)) n)

  pub globals_below : Below n (global_lines W n)
  globals_below = rw (globals_grown W n) (grown_below (λ i. long (W i)) n)

  -- the global list holds exactly the lines that visit more than 2,048 cells
  pub globals_hold : (k : ℕ) → elem k (global_lines W n) ≡ (ltb k n && long (W k))
  globals_hold k = rw (globals_grown W n) (grown_elem (λ i. long (W i)) n k)

  elem_local : (k c : ℕ) → elem c (local W k) ≡ (not (long (W k)) && elem c (W k))
  elem_local k c = go (long (W k)) refl
    where
      go : (b : Bool) → long (W k) ≡ b → elem c (local W k) ≡ (not b && elem c (W k))
      go true e = rw (local_long W k e)
      go false e = rw (local_short W k e)

  -- a cell lists exactly the lines whose walk visits it and visits at most 2,048 cells
  pub list_holds : (k c : ℕ) → elem k (local_lines W n c) ≡ (ltb k n && (not (long (W k)) && elem c (W k)))
  list_holds k c = rw (list_grown (local W) n c) (grown_elem (λ i. elem c (local W i)) n k ∙ rw (elem_local k c))

  -- at most 2,048 cells list a line: each such cell counts one
  pub lists_few : (k cells : ℕ) → sum (λ c. length (only (elem k (local_lines W n c)) k)) cells ≤ 2048
  lists_few k cells =
      omega (
        arith,
        local_few W k,
        cells_few (local W k) k cells,
        sum_most (λ c. length (only (elem k (local_lines W n c)) k)) (λ c. length (only (elem c (local W k)) k)) cells (λ c l. rw (list_grown (local W) n c, grown_elem (λ i. elem c (local W i)) n k) (only_less (ltb k n) (elem c (local W k)) k)),
      )
    where
      only_less : (a b : Bool) (k : ℕ) → length (only (a && b) k) ≤ length (only b k)
      only_less true b k = le_refl (length (only b k))
      only_less false true k = omega arith
      only_less false false k = omega arith
