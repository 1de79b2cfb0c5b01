-- Tables as they are: what of them makes tests where nobody has checked them. A list that does not fit is empty, and no more cells are looked at
-- than the offsets tell of. Tables that fit are all looked at, as they stand. Definitions only.
use Rattle.std.specs.Prelude.{ℕ, ◌-◌, min, ◌&&◌, List, length, take, leb}
use Rattle.tables.specs.Tables.{Tables, cells}
use Rattle.tables.specs.Fit.{increases}
use Rattle.listed.specs.Lists.{list_if, list_by}

-- how many cells are looked at: those of the grid that the offsets tell of, and no more than a fit grid can have
unfoldable pub cells_looked_at : ℕ → ℕ → ℕ
cells_looked_at cells told = min (min cells (told - 1)) 1002001

abbrev pub cells_to_look : Tables → ℕ
cells_to_look t = cells_looked_at (cells t) (length t.offsets)

-- the lists
abbrev pub list_as : Tables → ℕ → List ℕ
list_as t c = list_by t.lines t.offsets t.items c

-- the global lines, if they are within their slice and strictly increase below n
unfoldable pub globals_by : ℕ → List ℕ → ℕ → List ℕ
globals_by n globals count = list_if (leb count (length globals) && increases 0 n (take count globals)) (take count globals)

abbrev pub globals_as : Tables → List ℕ
globals_as t = globals_by t.lines t.globals t.global_count
