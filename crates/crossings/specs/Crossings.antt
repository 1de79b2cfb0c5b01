-- Document 02, 7: "A crate above the grid lists each pair handed out whose closed segments share a point, once, at its first test, in visit order."
-- Segments that share a point have boxes that overlap, so all such pairs are handed out, and whether they share a point is all that is asked.
-- Definitions only.
use Rattle.refusals.specs.Refusals.{Check}
use Rattle.std.specs.Prelude.{List, ℕ, length}
use Rattle.refusals.specs.Refusals.{and_then, Answer, gives, ◌then◌}
use Rattle.grid.specs.declared.Grid.{Grid}
use Rattle.grid.specs.Domain.{grid_check}
use Rattle.tables.specs.Tables.{Tables, tables}
use Rattle.tables.specs.Fit.{tables_check}
use Rattle.seek.specs.Tests.{Pair}
use Rattle.lent.specs.Lent.{rooms_check, pairs_check}
use Rattle.first_tests.specs.Firsts.{first_tests}
use Rattle.samples.specs.Samples.{Samples, sample_count, sample_lines_check}
use Rattle.samples.specs.Sharing.{shares}

-- the tables that are lent beside lines of samples
abbrev pub beside_samples : Samples → Grid → List ℕ → List ℕ → List ℕ → ℕ → Tables
beside_samples ss g offsets items globals n = tables g (sample_count ss) offsets items globals n

-- THE CROSSINGS: the first tests of two lines that share a point, in the order of the visit
unfoldable pub crossings_of : Samples → Tables → List Pair
crossings_of ss t = first_tests (shares ss) t

-- 3, 2, 15 of the lines, 8 of the grid, 10 of the tables
unfoldable pub crossings_check : Samples → Grid → Tables → Check
crossings_check ss g t = and_then (sample_lines_check ss) (and_then (grid_check g) (tables_check t))

-- 3, of what is lent; then 3, 2, 15, 8 and 10; then 5; else the crossings
unfoldable pub crossings_by : Samples → Grid → Tables → List ℕ → List ℕ → List ℕ → List ℕ → List ℕ → Answer (List Pair)
crossings_by ss g t first second starts listing counts =
    rooms_check t.lines (length t.items) (length first) (length second) (length starts) (length listing) (length counts)
    then crossings_check ss g t
    then pairs_check (length (crossings_of ss t)) (length first)
    then gives (crossings_of ss t)
