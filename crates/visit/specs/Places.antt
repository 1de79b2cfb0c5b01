-- The number of a place. Definitions only.
use Rattle.std.specs.Prelude.{ℕ, ◌+◌, ◌*◌}
use Rattle.tables.specs.Tables.{Tables, cells}
use Rattle.seek.specs.declared.Place.{Place}
use Rattle.seek.specs.declared.Place.TheVariants.{Cell, Global}

-- the number of a place, where there are m cells in rows of `cols`: a cell's in row order, and after the cells a global's by its position
unfoldable pub number_in : ℕ → ℕ → Place → ℕ
number_in cols m (Cell row col) = row * cols + col
number_in cols m (Global p) = m + p

-- the number of a place of standing tables
abbrev pub number_of : Tables → Place → ℕ
number_of t pl = number_in t.cols (cells t) pl
