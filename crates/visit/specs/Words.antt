-- The words of the laws of a full visit: how often two lines are tested, in how many cells they meet, and batches laid end to end.
-- Definitions only.
use Rattle.std.specs.Prelude.{ℕ, zero, suc, ◌+◌, ◌-◌, ◌*◌, ◌/◌, ◌≤◌, ◌<◌, ◌≡◌, Bool, true, false, ◌&&◌, ◌||◌, List, [], ◌∷◌, ◌++◌, get_or, drop, eqb}
use Rattle.grid.specs.Domain.{Lines}
use Rattle.slices.specs.Lists.{elem}
use Rattle.tables.specs.Tables.{Tables, cells, list_of, globals_of}
use Rattle.seek.specs.Tests.{Pair, tests_of}
use Rattle.visit.specs.Places.{number_of}
use Rattle.visit.specs.Batches.{handed}
use Rattle.visit.specs.Entries.{tally_of}

-- ---- how many

-- k (k - 1) / 2
abbrev pub half_down : ℕ → ℕ
half_down k = k * (k - 1) / 2

-- the sum of f over the numbers below m
unfoldable pub sum_below : ℕ → (ℕ → ℕ) → ℕ
sum_below zero f = 0
sum_below (suc m) f = sum_below m f + f m

unfoldable pub one_where : Bool → ℕ
one_where true = 1
one_where false = 0

-- how many numbers below m pass a test
unfoldable pub count_below : ℕ → (ℕ → Bool) → ℕ
count_below m f = sum_below m (λ c. one_where (f c))

-- ---- how often

-- a test of the lines a and b, either of them first
unfoldable pub test_of_both : ℕ → ℕ → Pair → Bool
test_of_both a b p = (eqb p.first a && eqb p.second b) || (eqb p.first b && eqb p.second a)

-- how often a and b are tested
unfoldable pub times : ℕ → ℕ → List Pair → ℕ
times a b [] = 0
times a b (p ∷ ps) = one_where (test_of_both a b p) + times a b ps

-- each is a test of two different lines, both below n
abbrev pub Different : ℕ → List Pair → Type 0
Different n [] = Unit {0}
Different n (p ∷ ps) = ((p.first < n) × (p.second < n) × (p.first ≡ p.second → ⊥)) × Different n ps

-- the number of a test's place says where its lines are listed: below the number of cells, both stand in that cell's list; from there on, the
-- first is the global at the position that is left
pub record PlaceTells (t : Tables) (p : Pair) : Type 0 where
  pub in_cell : number_of t p.place < cells t
      → (elem p.first (list_of t (number_of t p.place)) ≡ true) × (elem p.second (list_of t (number_of t p.place)) ≡ true)
  pub of_global : cells t ≤ number_of t p.place → p.first ≡ get_or t.globals (number_of t p.place - cells t) 0

abbrev pub AllListed : Tables → List Pair → Type 0
AllListed t [] = Unit {0}
AllListed t (p ∷ ps) = PlaceTells t p × AllListed t ps

-- tables whose global lines stand in no cell's list, as a build leaves them
pub record Apart (t : Tables) : Type 0 where
  pub apart : (v : ℕ) → elem v (globals_of t) ≡ true → (c : ℕ) → c < cells t → elem v (list_of t c) ≡ false

-- ---- batches laid end to end, from bookmark b on, each with an output as long as the list says

-- the pairs that they hand out, one batch after another
unfoldable pub laid : Lines → Tables → ℕ → List ℕ → List Pair
laid ls t b [] = []
laid ls t b (room ∷ rooms) =
    handed ls (drop b (tests_of t)) room ++ laid ls t (tally_of ls (drop b (tests_of t)) b room).bookmark rooms

-- the bookmark that the last one answers
unfoldable pub bookmark_after : Lines → Tables → ℕ → List ℕ → ℕ
bookmark_after ls t b [] = b
bookmark_after ls t b (room ∷ rooms) = bookmark_after ls t (tally_of ls (drop b (tests_of t)) b room).bookmark rooms

-- the sums of the tests and of the overlaps that they answer
unfoldable pub tests_sum : Lines → Tables → ℕ → List ℕ → ℕ
tests_sum ls t b [] = 0
tests_sum ls t b (room ∷ rooms) =
    (tally_of ls (drop b (tests_of t)) b room).tests + tests_sum ls t (tally_of ls (drop b (tests_of t)) b room).bookmark rooms

unfoldable pub overlaps_sum : Lines → Tables → ℕ → List ℕ → ℕ
overlaps_sum ls t b [] = 0
overlaps_sum ls t b (room ∷ rooms) =
    (tally_of ls (drop b (tests_of t)) b room).overlaps + overlaps_sum ls t (tally_of ls (drop b (tests_of t)) b room).bookmark rooms
