-- The words of the laws: each pair once, at its first test, whatever decides which two lines are handed out. Definitions only.
use Rattle.std.specs.Prelude.{ℕ, ◌≡◌, Bool, ◌&&◌, List, [], ◌∷◌, ◌++◌, eqb, ltb}
use Rattle.tables.specs.Tables.{Tables}
use Rattle.seek.specs.Tests.{Pair, tests_of}
use Rattle.visit.specs.Words.{one_where, times, Different}
use Rattle.first_tests.specs.Firsts.{is_first, first_tests}

-- each of some tests, which are made after others, counts as the first exactly if none of those before it is a test of its two lines, either of
-- them first
abbrev pub FirstsAfter : Tables → List Pair → List Pair → Type 0
FirstsAfter t before [] = Unit {0}
FirstsAfter t before (p ∷ ps) = (is_first t p ≡ eqb (times p.first p.second before) 0) × FirstsAfter t (before ++ (p ∷ [])) ps

-- Of the first tests of which a decision is yes. They are some of the tests, in their order and each as it was made, by their definition.
pub record EachOnce (chosen : ℕ → ℕ → Bool) (t : Tables) : Type 0 where
  -- a first test is a pair's first
  pub first : FirstsAfter t [] (tests_of t)
  -- two lines that are tested, and chosen, are handed out once, and else never
  pub once : (a b : ℕ) → times a b (first_tests chosen t) ≡ one_where (chosen a b && ltb 0 (times a b (tests_of t)))
  -- no line with itself, and none that there is not
  pub only : Different t.lines (first_tests chosen t)
