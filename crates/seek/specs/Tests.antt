-- Document 01, "The visit": the tests of a full visit in their order, from the tables alone. "Cells in row order; in a list, entry i with each
-- later j, i outermost. Then each global in order with every line in order, but not itself and not a lower global. Each is one test."
-- Definitions only.
use Rattle.std.specs.Prelude.{ℕ, zero, suc, ◌/◌, ◌%◌, List, [], ◌∷◌, ◌++◌, get_or, take}
use Rattle.slices.specs.Lists.{elem}
use Rattle.slices.specs.Slices.{cons_unless}
use Rattle.tables.specs.Tables.{Tables, cells, list_in}
use Rattle.seek.specs.declared.Place.{Place}
use Rattle.seek.specs.declared.Place.TheVariants.{Cell, Global}

-- one test: its place, and the two lines
pub record Pair : Type 0 where
  pub place : Place
  pub first : ℕ
  pub second : ℕ

abbrev pub pair : Place → ℕ → ℕ → Pair
pair pl a b = record { place = pl; first = a; second = b }

-- a line with each of a list, in order
unfoldable pub with_each : Place → ℕ → List ℕ → List Pair
with_each pl a [] = []
with_each pl a (b ∷ bs) = pair pl a b ∷ with_each pl a bs

-- entry i of a list with each later j, i outermost
unfoldable pub pairs : Place → List ℕ → List Pair
pairs pl [] = []
pairs pl (a ∷ bs) = with_each pl a bs ++ pairs pl bs

-- the place of cell c, in row order
unfoldable pub place_of : ℕ → ℕ → Place
place_of cols c = Cell (c / cols) (c % cols)

-- the lists of `left` cells from cell c on
unfoldable pub cell_tests : ℕ → List ℕ → List ℕ → ℕ → ℕ → List Pair
cell_tests cols offsets items zero c = []
cell_tests cols offsets items (suc left) c = pairs (place_of cols c) (list_in offsets items c) ++ cell_tests cols offsets items left (suc c)

-- of the `left` lines from k on, those that are not in a list
unfoldable pub others : List ℕ → ℕ → ℕ → List ℕ
others xs zero k = []
others xs (suc left) k = cons_unless (elem k xs) k (others xs left (suc k))

-- `left` globals from position p on, each with every line but itself and the lower globals
unfoldable pub global_tests : ℕ → List ℕ → ℕ → ℕ → List Pair
global_tests n globals zero p = []
global_tests n globals (suc left) p =
    with_each (Global p) (get_or globals p 0) (others (take (suc p) globals) n 0) ++ global_tests n globals left (suc p)

-- THE TESTS of a full visit
unfoldable pub tests_of : Tables → List Pair
tests_of t =
    cell_tests t.cols t.offsets t.items (cells t) 0 ++ global_tests t.lines t.globals t.global_count 0
