-- Each pair once: the first test of two lines, and the pairs that a visit hands out at it. "A test in cell c is the first if the two lines have no
-- common cell before c, a global's if they have none at all." Which two lines are handed out is asked of a decision `chosen` on two line numbers.
-- Definitions only.
use Rattle.std.specs.Prelude.{Ok, Err, Result, ℕ, ◌+◌, ◌*◌, ◌≡◌, Bool, not, ◌&&◌, List, [], ◌∷◌, length, replicate}
use Rattle.refusals.specs.declared.Refusal.{Refusal}
use Rattle.refusals.specs.Refusals.{Answer, answer_by, left_in, zero_beyond}
use Rattle.tables.specs.Tables.{Tables, cells, list_of}
use Rattle.seek.specs.declared.Place.{Place}
use Rattle.seek.specs.declared.Place.TheVariants.{Cell, Global}
use Rattle.seek.specs.Tests.{Pair, tests_of}
use Rattle.visit.specs.Batches.{keep_if, firsts, seconds}
use Rattle.by_line.specs.First.{met_below}

-- ---- the first test

-- how many cells a visit has been through before the tests at a place
unfoldable pub through : Tables → Place → ℕ
through t (Cell row col) = row * t.cols + col
through t (Global p) = cells t

-- no cell that the visit has been through lists both lines
unfoldable pub is_first : Tables → Pair → Bool
is_first t p = not (met_below (list_of t) (through t p.place) p.first p.second)

-- a test hands its pair out if the decision is yes and it is the first
unfoldable pub keeps : (ℕ → ℕ → Bool) → Tables → Pair → Bool
keeps chosen t p = chosen p.first p.second && is_first t p

-- those of some tests that pass, in order
unfoldable pub kept_by : (Pair → Bool) → List Pair → List Pair
kept_by keep [] = []
kept_by keep (p ∷ ps) = keep_if (keep p) p (kept_by keep ps)

-- THE PAIRS of a full visit, each once: the first tests of which the decision is yes
unfoldable pub first_tests : (ℕ → ℕ → Bool) → Tables → List Pair
first_tests chosen t = kept_by (keeps chosen t) (tests_of t)

-- ---- what a full visit comes to

-- the answer r to what a call comes to, and the five slices before and after: the pairs with zero beyond them, and the scratch, which is zero
pub record PairsAre (end : Answer (List Pair)) (first second starts listing counts : List ℕ) (r : Result ℕ Refusal) (first' second' starts' listing' counts' : List ℕ) : Type 0 where
  pub answers : r ≡ answer_by Err (λ ps. Ok (length ps)) end
  pub first_is : first' ≡ left_in 0 first end (λ ps. zero_beyond 0 (length first) (firsts ps))
  pub second_is : second' ≡ left_in 0 second end (λ ps. zero_beyond 0 (length second) (seconds ps))
  pub starts_are : starts' ≡ left_in 0 starts end (λ ps. replicate (length starts) 0)
  pub listing_is : listing' ≡ left_in 0 listing end (λ ps. replicate (length listing) 0)
  pub counts_are : counts' ≡ left_in 0 counts end (λ ps. replicate (length counts) 0)
