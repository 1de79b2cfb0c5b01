-- The measured points, computed straight from the definitions. Assumes nothing.
use mathlib.Core.Path.{refl}
use mathlib.Core.List.{flat_map}
use lib.Ieee.{round, add, sub, mul, div, neg, lt, le, eq, ne, is_nan, size, span, climb, units, odd, sum, of_int, of_bits, of_fields, to_bits}
use lib.Count.{count_trailing_zeros}
use Rattle.numbers.specs.Order.{least_of, greatest_of, magnitude_of}
use Rattle.numbers.specs.Floor.{clamped_floor, floor_of}
use Rattle.numbers.specs.Away.{round_away}
use Rattle.slices.specs.Slices.{sorted, insert, insert_if, distinct_of, after as runAfter, cons_unless as unlessHere}
use Rattle.refusals.specs.Refusals.{unless, and_then, ◌then◌, ◌into◌, answer_by}
use Rattle.grid.specs.Domain.{coordinate, point, segment, size_fits, sizes_fit, shape, fit, scratch_check, coordinate_check, point_check, segment_check, grid_check, cell_check}
use Rattle.grid.specs.Axes.{scaled_on, index_on, low_on, high_on, near_whole, side_of, side_on}
use Rattle.turns.specs.Turns.{finite_of, sign_of as step_of, delta_of, next_on, first_on, stride_on, progress_on, ray_of, start_of, tolerance_of, near_of, further_of, same_int, arrived_of, turn_of, advanced, moved_of, goes_of}
use Rattle.turns.specs.Pushes.{kept_if, push_of, sides_of, pushed_of, before, followed_by, next_of, going_of, turns, walked_of}
use Rattle.walk.specs.Neighbours.{neighbour_for, neighbour_on, along_on, low_col_of, up_col_of, low_row_of, up_row_of, column_of, row_of, beside_of, line_of, cell_of, endpoint_of}
use Rattle.walk.specs.Segment.{pushes_of, answered, by_turns, unless_none, turns_of, turning, segment_of, entry_check, off_in, off_check, entry_of}
use Rattle.snap.specs.Snap.{snap_size, snap_size_check, snap_check, grid_snap, snap_of, snap_answer}
use Rattle.snap.specs.Strategies.{sign_one, geos_snap, geos_of, same_bits, agreement_answer}
use Rattle.own.specs.Own.{owns_on, owns_point, point_on_grid_check, point_answer}
use Rattle.demands.specs.Table.{table, Claim}

-- P1 TO P10
pub claim : Claim table
unfolding round add sub mul div neg lt le eq ne is_nan size span climb units odd sum of_int of_bits of_fields to_bits count_trailing_zeros least_of greatest_of magnitude_of clamped_floor floor_of round_away sorted insert insert_if distinct_of runAfter unlessHere unless and_then coordinate point segment size_fits sizes_fit shape fit scratch_check coordinate_check point_check segment_check grid_check cell_check snap_size snap_size_check snap_check scaled_on index_on low_on high_on near_whole finite_of step_of delta_of next_on first_on stride_on progress_on ray_of start_of tolerance_of near_of further_of same_int arrived_of turn_of advanced moved_of goes_of kept_if push_of sides_of pushed_of before followed_by next_of going_of turns walked_of low_col_of low_row_of beside_of along_on cell_of endpoint_of pushes_of answered unless_none turns_of turning segment_of off_in entry_check off_check entry_of ◌then◌ ◌into◌ answer_by grid_snap snap_of snap_answer sign_one geos_snap geos_of same_bits agreement_answer owns_on owns_point point_on_grid_check point_answer side_of side_on neighbour_for neighbour_on up_col_of up_row_of column_of row_of line_of flat_map by_turns
claim = ((refl, tt), ((refl, tt), ((refl, tt), ((refl, tt), ((refl, tt), ((refl, (refl, tt)), ((refl, (refl, tt)), ((refl, tt), ((refl, (refl, tt)), ((refl, (refl, tt)), tt))))))))))
