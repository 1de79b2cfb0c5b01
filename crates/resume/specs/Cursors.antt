-- A cursor: the number of a place, which is a cell or, from the number of cells on, a global by its position; in a cell two entries of its list,
-- at a global 0 and a line. The tests that are left from a cursor, whatever its numbers are, and the cursor of the first of some tests. Definitions only.
use Rattle.std.specs.Prelude.{ℕ, suc, ◌+◌, ◌-◌, ◌*◌, Bool, true, false, cond, List, [], ◌∷◌, ◌++◌, length, ltb, eqb}
use Rattle.tables.specs.Tables.{Tables}
use Rattle.seek.specs.declared.Place.{Place}
use Rattle.seek.specs.declared.Place.TheVariants.{Cell, Global}
use Rattle.seek.specs.Tests.{Pair}
use Rattle.seek.specs.Cursors.{globals_rest}
use Rattle.listed.specs.Lists.{cells_from}
use Rattle.resume.specs.declared.Cursor.{Cursor}
use Rattle.resume.specs.AsTheyAre.{cells_to_look, list_as, globals_as}

abbrev pub cursor : ℕ → ℕ → ℕ → Cursor
cursor place i j = record { place = place; i = i; j = j }

-- ---- the tests that are left

-- of the globals: from line k of the one at position p on
abbrev pub globals_from : ℕ → List ℕ → ℕ → ℕ → List Pair
globals_from n globals p k = globals_rest n globals (length globals - p) p k

-- THE TESTS that are left from a cursor, on tables as they are: beyond the last none is
unfoldable pub left_from : Tables → Cursor → List Pair
left_from t c =
    cells_from t.cols (list_as t) (cells_to_look t - c.place) c.place c.i c.j
    ++ globals_from t.lines (globals_as t) (c.place - cells_to_look t) (cond (ltb c.place (cells_to_look t)) 0 c.j)

-- ---- the cursor of some tests

-- where a value stands in a list first
unfoldable pub zero_or_next : Bool → ℕ → ℕ
zero_or_next true n = 0
zero_or_next false n = suc n

unfoldable pub index_of : ℕ → List ℕ → ℕ
index_of v [] = 0
index_of v (x ∷ xs) = zero_or_next (eqb v x) (index_of v xs)

-- where the test of lines a and b stands
unfoldable pub spot_of : Tables → Place → ℕ → ℕ → Cursor
spot_of t (Cell row col) a b =
    cursor (row * t.cols + col) (index_of a (list_as t (row * t.cols + col))) (index_of b (list_as t (row * t.cols + col)))
spot_of t (Global p) a b = cursor (cells_to_look t + p) 0 b

-- THE CURSOR of some tests: where the first of them stands, or the end
unfoldable pub cursor_of : Tables → List Pair → Cursor
cursor_of t [] = cursor (cells_to_look t + length (globals_as t)) 0 0
cursor_of t (p ∷ ps) = spot_of t p.place p.first p.second
