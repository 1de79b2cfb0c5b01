-- What a visit is refused by, and the tests that are left at a bookmark. Definitions only.
use Rattle.std.specs.Prelude.{Ok, Err, Some, None, Result, Option, ℕ, List, [], ◌∷◌, length, drop, leb}
use Rattle.refusals.specs.declared.Refusal.{Refusal}
use Rattle.refusals.specs.Refusals.{Check}
use Rattle.refusals.specs.Refusals.{unless, and_then, Answer, gives, ◌then◌, answer_by}
use Rattle.grid.specs.declared.Grid.{Grid}
use Rattle.grid.specs.Domain.{Lines, lines_check, grid_check}
use Rattle.tables.specs.Tables.{Tables}
use Rattle.tables.specs.Fit.{tables_check}
use Rattle.seek.specs.declared.PairAt.{PairAt}
use Rattle.seek.specs.Tests.{Pair, tests_of}

-- ---- the refusals

-- 3, 2, 1 of the lines, 8 of the grid, 10 of the tables
unfoldable pub visit_check : Lines → Grid → Tables → Check
visit_check ls g t = and_then (lines_check ls) (and_then (grid_check g) (tables_check t))

-- 9: bookmark beyond its end, which is the number of tests
unfoldable pub bookmark_check : Tables → ℕ → Check
bookmark_check t b = unless (leb b (length (tests_of t))) 9 b

-- what a visit from a bookmark is refused by
unfoldable pub from_check : Lines → Grid → Tables → ℕ → Check
from_check ls g t b = and_then (visit_check ls g t) (bookmark_check t b)

-- ---- the tests that are left at a bookmark

unfoldable pub tests_from : Lines → Grid → Tables → ℕ → Answer (List Pair)
tests_from ls g t b = visit_check ls g t then bookmark_check t b then gives (drop b (tests_of t))

-- ---- the test at a bookmark

-- the first of some tests: its place and its two lines, or the end mark
unfoldable pub first_of : List Pair → (Result (Option PairAt) Refusal)
first_of [] = Ok None
first_of (p ∷ ps) = Ok (Some (record { place = p.place; first = p.first; second = p.second }))

unfoldable pub pair_at : Lines → Grid → Tables → ℕ → (Result (Option PairAt) Refusal)
pair_at ls g t b = answer_by Err first_of (tests_from ls g t b)
