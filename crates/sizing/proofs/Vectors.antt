-- The first grids of small builds, from the definitions, in both sizings. Assumes nothing.
use Rattle.std.proofs.Common.{◌≡◌, ℕ, false, [], ◌∷◌, pos, refl}
use lib.Ieee.{Float, fin, lt, is_nan, sub, round, of_int, mul, add, div}
use Rattle.numbers.specs.Order.{least_of, greatest_of}
use Rattle.numbers.specs.Ceiling.{ceiling_of}
use Rattle.numbers.specs.Root.{root}
use Rattle.grid.specs.declared.Grid.{Grid}
use Rattle.grid.specs.Domain.{Lines, lines, count}
use Rattle.sizing.specs.declared.Sizing.{Sizing}
use Rattle.sizing.specs.declared.Sizing.TheVariants.{Square, Axes}
use Rattle.sizing.specs.Bounds.{lowest, highest, reach, extent_of}
use Rattle.sizing.specs.Size.{largest, area_of, square_side, length_on, first_size}
use Rattle.sizing.specs.Counts.{count_on, grid_of}
use Rattle.sizing.proofs.Constants.{1e-6}

abbrev 0f : Float
0f = fin false 0 (pos 0)

abbrev 1f : Float
1f = fin false 1 (pos 0)

abbrev 2f : Float
2f = fin false 1 (pos 1)

abbrev 16f : Float
16f = fin false 1 (pos 4)

abbrev 32f : Float
32f = fin false 1 (pos 5)

-- the first grid that a build of these lines tries
abbrev first : Sizing → Lines → Grid
first z ls = grid_of (extent_of ls) (first_size z (extent_of ls) (count ls))

-- a grid from (0, 0) on
abbrev sized : Float → Float → ℕ → ℕ → Grid
sized width height cols rows = record { min_x = 0f; min_y = 0f; cell_width = width; cell_height = height; cols = cols; rows = rows }

-- (0, 0) to (2, 2)
abbrev diagonal : Lines
diagonal = lines (0f ∷ []) (0f ∷ []) (2f ∷ []) (2f ∷ [])

-- (0, 0) to (0, 0)
abbrev spot : Lines
spot = lines (0f ∷ []) (0f ∷ []) (0f ∷ []) (0f ∷ [])

-- (0, 0), (2, 0), (2, 2), (0, 2), (0, 0)
abbrev round_trip : Lines
round_trip = lines (0f ∷ 2f ∷ 2f ∷ 0f ∷ []) (0f ∷ 0f ∷ 2f ∷ 2f ∷ []) (2f ∷ 2f ∷ 0f ∷ 0f ∷ []) (0f ∷ 2f ∷ 2f ∷ 0f ∷ [])

-- ---- document 01's measured builds

-- cell_size 2, 2 by 2
one_line : first Square diagonal ≡ sized 2f 2f 2 2
unfolding lowest highest reach extent_of largest area_of square_side first_size count_on grid_of least_of greatest_of ceiling_of root lt is_nan sub round of_int mul add div
one_line = refl

-- 1 by 1
one_point : first Square spot ≡ sized 1f 1f 1 1
unfolding lowest highest reach extent_of largest area_of square_side first_size count_on grid_of least_of greatest_of ceiling_of root lt is_nan sub round of_int mul add div
one_point = refl

-- cell_size 1, 3 by 3
sample : first Square round_trip ≡ sized 1f 1f 3 3
unfolding lowest highest reach extent_of largest area_of square_side first_size count_on grid_of least_of greatest_of ceiling_of root lt is_nan sub round of_int mul add div
sample = refl

-- ---- by axis

one_line_by_axis : first Axes diagonal ≡ sized 2f 2f 2 2
unfolding lowest highest reach extent_of largest length_on first_size count_on grid_of least_of greatest_of ceiling_of root lt is_nan sub round of_int add div
one_line_by_axis = refl

-- a side of 0 has one cell of 1e-6
one_point_by_axis : first Axes spot ≡ sized 1e-6 1e-6 1 1
unfolding lowest highest reach extent_of largest length_on first_size count_on grid_of least_of greatest_of ceiling_of root lt is_nan sub round of_int add div
one_point_by_axis = refl

sample_by_axis : first Axes round_trip ≡ sized 1f 1f 3 3
unfolding lowest highest reach extent_of largest length_on first_size count_on grid_of least_of greatest_of ceiling_of root lt is_nan sub round of_int add div
sample_by_axis = refl

-- (0, 0) to (2, 0): the height is sized from the height alone
level_by_axis : first Axes (lines (0f ∷ []) (0f ∷ []) (2f ∷ []) (0f ∷ [])) ≡ sized 2f 1e-6 2 1
unfolding lowest highest reach extent_of largest length_on first_size count_on grid_of least_of greatest_of ceiling_of root lt is_nan sub round of_int add div
level_by_axis = refl

-- four lines along the diagonal from (0, 0) to (2, 32): half of 2 wide, half of 32 high
tall_by_axis : first Axes (lines (0f ∷ 0f ∷ 0f ∷ 0f ∷ []) (0f ∷ 0f ∷ 0f ∷ 0f ∷ []) (2f ∷ 2f ∷ 2f ∷ 2f ∷ []) (32f ∷ 32f ∷ 32f ∷ 32f ∷ [])) ≡ sized 1f 16f 3 3
unfolding lowest highest reach extent_of largest length_on first_size count_on grid_of least_of greatest_of ceiling_of root lt is_nan sub round of_int add div
tall_by_axis = refl
