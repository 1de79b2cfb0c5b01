-- Lists as they are: what of the tables' lists makes tests where nobody has checked them, and the tests that are left from a place in the cells,
-- whatever its numbers are. A list that does not fit is empty. Definitions only.
use Rattle.std.specs.Prelude.{ℕ, zero, suc, Bool, true, false, cond, ◌&&◌, List, [], ◌++◌, length, get_or, leb, ltb}
use Rattle.tables.specs.Tables.{list_in}
use Rattle.tables.specs.Fit.{increases}
use Rattle.seek.specs.declared.Place.{Place}
use Rattle.seek.specs.Tests.{Pair, pairs, place_of}
use Rattle.seek.specs.Cursors.{rest_in}

-- a list where a test passes, else none
unfoldable pub list_if : Bool → List ℕ → List ℕ
list_if true xs = xs
list_if false xs = []

-- the list of cell c: from its offset to the next, if that is a part of the items and strictly increases below n
unfoldable pub list_by : ℕ → List ℕ → List ℕ → ℕ → List ℕ
list_by n offsets items c =
    list_if (leb (get_or offsets c 0) (get_or offsets (suc c) 0) && (leb (get_or offsets (suc c) 0) (length items) && increases 0 n (list_in offsets items c)))
    (list_in offsets items c)

-- ---- the tests that are left

-- of a list: entry i with each from j on, but only with later ones, and the later rows
unfoldable pub list_from : Place → List ℕ → ℕ → ℕ → List Pair
list_from pl xs i j = rest_in pl xs i (cond (ltb i j) j (suc i))

-- the lists L of `left` cells from cell c on
unfoldable pub tests_of_cells : ℕ → (ℕ → List ℕ) → ℕ → ℕ → List Pair
tests_of_cells cols L zero c = []
tests_of_cells cols L (suc left) c = pairs (place_of cols c) (L c) ++ tests_of_cells cols L left (suc c)

-- of `left` cells from c on: of the list of c, and of the later cells
unfoldable pub cells_from : ℕ → (ℕ → List ℕ) → ℕ → ℕ → ℕ → ℕ → List Pair
cells_from cols L zero c i j = []
cells_from cols L (suc left) c i j = list_from (place_of cols c) (L c) i j ++ tests_of_cells cols L left (suc c)
