-- Each pair once: the pairs that a visit hands out at their first test, where two lines are handed out if their boxes overlap. Definitions only.
use Rattle.std.specs.Prelude.{ℕ, List, length}
use Rattle.refusals.specs.Refusals.{Answer, gives, ◌then◌}
use Rattle.grid.specs.declared.Grid.{Grid}
use Rattle.grid.specs.Domain.{Lines}
use Rattle.tables.specs.Tables.{Tables}
use Rattle.seek.specs.Tests.{Pair}
use Rattle.visit.specs.Overlap.{overlap}
use Rattle.seek.specs.Bookmarks.{visit_check}
use Rattle.lent.specs.Lent.{rooms_check, pairs_check}
use Rattle.first_tests.specs.Firsts.{first_tests}

-- the pairs whose boxes overlap
unfoldable pub once_of : Lines → Tables → List Pair
once_of ls t = first_tests (overlap ls) t

-- ---- the entry

-- 3; then 3, 2, 1, 8 and 10 as a visit; then 5; else the pairs
unfoldable pub once_by : Lines → Grid → Tables → List ℕ → List ℕ → List ℕ → List ℕ → List ℕ → Answer (List Pair)
once_by ls g t first second starts listing counts =
    rooms_check t.lines (length t.items) (length first) (length second) (length starts) (length listing) (length counts)
    then visit_check ls g t
    then pairs_check (length (once_of ls t)) (length first)
    then gives (once_of ls t)
