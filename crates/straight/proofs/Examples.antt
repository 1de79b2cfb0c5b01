-- Worked examples of the list: computed straight from the definitions, beside what the walk answers. Assumes nothing.
use mathlib.Core.Path.{◌≡◌, refl}
use mathlib.Core.Bool.{false, true}
use mathlib.Core.List.{List, [], ◌∷◌, flat_map}
use Prim.Native.Nat.{ℕ, ◌-◌, ◌*◌, ◌^◌}
use lib.Ieee.{Float, binary64, round, add, sub, mul, div, neg, lt, le, eq, ne, is_nan, size, span, climb, units, odd, sum, of_int}
use lib.Count.{count_trailing_zeros}
use Rattle.numbers.specs.Order.{least_of, greatest_of, magnitude_of}
use Rattle.numbers.specs.Floor.{clamped_floor}
use Rattle.numbers.specs.Away.{round_away}
use Rattle.slices.specs.Slices.{sorted, insert, insert_if, distinct_of, after as runAfter, cons_unless as unlessHere}
use Rattle.refusals.specs.Refusals.{gives, ◌into◌}
use Rattle.grid.specs.declared.Grid.{Grid}
use Rattle.grid.specs.declared.Segment.{Segment}
use Rattle.grid.specs.Domain.{segment_by}
use Rattle.grid.specs.Axes.{scaled_on, index_on, low_on, near_whole, boundary_on, side_of, side_on}
use Rattle.walk.specs.declared.Mode.{Mode}
use Rattle.walk.specs.declared.Mode.TheVariants.{Rust, Sided}
use Rattle.turns.specs.Turns.{finite_of, sign_of, delta_of, next_on, first_on, stride_on, progress_on, ray_of, start_of, tolerance_of, near_of, further_of, same_int, arrived_of, turn_of, advanced, moved_of, goes_of}
use Rattle.turns.specs.Pushes.{kept_if, push_of, sides_of, pushed_of, before, followed_by, next_of, going_of, turns, walked_of}
use Rattle.walk.specs.Neighbours.{neighbour_for, neighbour_on, along_on, low_col_of, up_col_of, low_row_of, up_row_of, column_of, row_of, beside_of, line_of, cell_of, endpoint_of}
use Rattle.walk.specs.Segment.{pushes_of, answered, by_turns, unless_none, turns_of, turning, segment_of}
use Rattle.straight.specs.Sentence.{sentence, those, vertical_by, horizontal_by, vertical_cells, horizontal_cells, vertical_in, horizontal_in}
use Rattle.straight.specs.Lines.{vertical, horizontal}

abbrev part : ℕ → ℕ → Float
part a b = round binary64 false a b

abbrev minus : ℕ → ℕ → Float
minus a b = round binary64 true a b

-- at 0, 0, cells of 1 by 1, 4 columns and 3 rows
abbrev small : Grid
small = record { min_x = part 0 1; min_y = part 0 1; cell_width = part 1 1; cell_height = part 1 1; cols = 4; rows = 3 }

-- the list, and the walk's answer
abbrev BothIn : Mode → (Grid → Segment → List ℕ) → Segment → List ℕ → Type 0
BothIn mode cells line is = (cells small line ≡ is) × (segment_of mode small line ≡ gives is)

abbrev Both : (Grid → Segment → List ℕ) → Segment → List ℕ → Type 0
Both cells line is = BothIn Rust cells line is

-- a hair under a whole number
abbrev under : ℕ → Float
under n = part (n * 2 ^ 41 - 1) (2 ^ 41)

pub examples :
    -- on no boundary
    Both vertical_cells (segment_by (part 3 2) (part 1 2) (part 3 2) (part 5 2)) (1 ∷ 5 ∷ 9 ∷ [])
    -- x on a boundary, and the lower end too: the row below, in both columns
    × Both vertical_cells (segment_by (part 1 1) (part 1 1) (part 1 1) (part 5 2)) (0 ∷ 1 ∷ 4 ∷ 5 ∷ 8 ∷ 9 ∷ [])
    -- x on no boundary, the lower end on one: downward
    × Both vertical_cells (segment_by (part 3 2) (part 5 2) (part 3 2) (part 1 1)) (1 ∷ 5 ∷ 9 ∷ [])
    -- beyond the grid on all sides: the last column, the one below, and no row that there is not
    × Both vertical_cells (segment_by (part 9 1) (minus 5 1) (part 9 1) (part 7 1)) (2 ∷ 3 ∷ 6 ∷ 7 ∷ 10 ∷ 11 ∷ [])
    -- a point; 0 and -0
    × Both vertical_cells (segment_by (minus 0 1) (part 2 1) (part 0 1) (part 2 1)) (4 ∷ 8 ∷ [])
    -- horizontal, y on a boundary
    × Both horizontal_cells (segment_by (part 5 2) (part 1 1) (part 1 2) (part 1 1)) (0 ∷ 1 ∷ 2 ∷ 4 ∷ 5 ∷ 6 ∷ [])
    -- horizontal, ends on boundaries, y on none
    × Both horizontal_cells (segment_by (part 1 1) (part 3 2) (part 2 1) (part 3 2)) (4 ∷ 5 ∷ 6 ∷ [])
    -- x a hair under a boundary: the column above beside it in the sided mode, the one below in the Rust's
    × BothIn Sided (vertical_in Sided) (segment_by (under 2) (part 1 2) (under 2) (part 5 2)) (1 ∷ 2 ∷ 5 ∷ 6 ∷ 9 ∷ 10 ∷ [])
    × Both vertical_cells (segment_by (under 2) (part 1 2) (under 2) (part 5 2)) (0 ∷ 1 ∷ 4 ∷ 5 ∷ 8 ∷ 9 ∷ [])
    -- an end a hair under a boundary, x on one: the row above, in both columns
    × BothIn Sided (vertical_in Sided) (segment_by (part 1 1) (part 1 2) (part 1 1) (under 2)) (0 ∷ 1 ∷ 4 ∷ 5 ∷ 8 ∷ 9 ∷ [])
    -- horizontal, y a hair under the last boundary: no row beyond
    × BothIn Sided (horizontal_in Sided) (segment_by (part 5 2) (under 3) (part 1 2) (under 3)) (8 ∷ 9 ∷ 10 ∷ [])
    -- a line that rises is neither
    × (vertical (segment_by (part 1 2) (part 1 2) (part 3 2) (part 5 2)) ≡ false)
    × (horizontal (segment_by (part 1 2) (part 1 2) (part 3 2) (part 5 2)) ≡ false)
unfolding round add sub mul div neg lt le eq ne is_nan size span climb units odd sum of_int count_trailing_zeros least_of greatest_of magnitude_of clamped_floor round_away sorted insert insert_if distinct_of runAfter unlessHere scaled_on index_on low_on near_whole boundary_on side_of side_on finite_of sign_of delta_of next_on first_on stride_on progress_on ray_of start_of tolerance_of near_of further_of same_int arrived_of turn_of advanced moved_of goes_of kept_if push_of sides_of pushed_of before followed_by next_of going_of turns walked_of neighbour_for neighbour_on along_on low_col_of up_col_of low_row_of up_row_of column_of row_of beside_of line_of cell_of endpoint_of flat_map pushes_of answered by_turns unless_none turns_of turning segment_of ◌into◌ sentence those vertical_by horizontal_by
examples = ((refl, refl), (refl, refl), (refl, refl), (refl, refl), (refl, refl), (refl, refl), (refl, refl), (refl, refl), (refl, refl), (refl, refl), (refl, refl), refl, refl)
