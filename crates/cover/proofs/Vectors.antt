-- Worked values, and that the laws' premises can be met. On a grid of 2 by 4 cells, 1 wide and 1 / 2 high, two lines cross at (1, 1), and a third begins left
-- of the grid. Assumes nothing.
use mathlib.Core.Path.{◌≡◌, refl}
use mathlib.Core.Bool.{true, false}
use mathlib.Core.List.{[], ◌∷◌}
use lib.IntN.{pos, negsuc}
use lib.Dec.{lit≤, lit<}
use lib.Ieee.{Float, fin, round, le, lt, sub, div, to_unsigned}
use Rattle.numbers.specs.Order.{magnitude_of}
use Rattle.grid.specs.declared.Grid.{Grid}
use Rattle.grid.specs.declared.Segment.{Segment}
use Rattle.grid.specs.Domain.{coordinate, point, shape, size_fits, sizes_fit, fit}
use Rattle.grid.specs.Points.{q_times, SharePoint}
use Rattle.cover.specs.Fine.{unit_on, units_on, fine_on, near_on}
use Rattle.cover.specs.Rule.{bottom_of, top_of, aside_of, left_of, right_of, run, cells_between}
use Rattle.cover.specs.Covering.{end_passes, passes, fine_ends, unless_no_column, covering_of, everywhere, Common}
use Rattle.cover.proofs.Laws.{common}

abbrev nought : Float
nought = fin false 0 (pos 0)

abbrev one : Float
one = fin false 1 (pos 0)

abbrev two : Float
two = fin false 1 (pos 1)

abbrev eight : Grid
eight = record { min_x = nought; min_y = nought; cell_width = one; cell_height = fin false 1 (negsuc 0); cols = 2; rows = 4 }

eight_fits : fit eight ≡ true
unfolding fit point coordinate magnitude_of size_fits sizes_fit shape round le
eight_fits = refl

-- one goes up, one goes down
abbrev rising : Segment
rising = record { start_x = nought; start_y = nought; end_x = two; end_y = two }

abbrev falling : Segment
falling = record { start_x = nought; start_y = two; end_x = two; end_y = nought }

-- half of the way along each they meet
crossing : SharePoint rising falling
unfolding q_times
crossing =
    record {
      n = 1;
      above = lit< tt;
      s = record { start_x = pos 0; start_y = pos 0; end_x = pos 2; end_y = pos 2 };
      t = record { start_x = pos 0; start_y = pos 2; end_x = pos 2; end_y = pos 0 };
      s_is = record { «start_x» = refl; «start_y» = refl; «end_x» = refl; «end_y» = refl };
      t_is = record { «start_x» = refl; «start_y» = refl; «end_x» = refl; «end_y» = refl };
      share = record { q = 2; a = 1; b = 1; above = lit< tt; a_to = lit≤ tt; b_to = lit≤ tt; on_x_lem = refl; on_y_lem = refl };
    }

pub cells_shared : Common (covering_of eight rising) (covering_of eight falling)
cells_shared = common eight eight_fits (lit< tt) rising falling crossing

pub cells_rising : covering_of eight rising ≡ 0 ∷ 2 ∷ 3 ∷ 4 ∷ 5 ∷ 7 ∷ []
unfolding covering_of unless_no_column passes end_passes near_on units_on unit_on fine_ends fine_on cells_between run left_of right_of aside_of bottom_of top_of le lt div sub to_unsigned
cells_rising = refl

-- a line that begins left of the grid is in every cell; these are few, so it is not everywhere
abbrev leaving : Segment
leaving = record { start_x = fin true 1 (pos 0); start_y = nought; end_x = two; end_y = nought }

pub cells_leaving : covering_of eight leaving ≡ 0 ∷ 1 ∷ 2 ∷ 3 ∷ 4 ∷ 5 ∷ 6 ∷ 7 ∷ []
unfolding covering_of unless_no_column passes end_passes near_on units_on unit_on fine_ends fine_on cells_between run left_of right_of aside_of bottom_of top_of le lt div sub to_unsigned
cells_leaving = refl

pub leaving_few : everywhere eight leaving ≡ false
unfolding everywhere passes end_passes near_on units_on unit_on le lt div sub
leaving_few = refl
