-- `through::rows::run_cells` meets its contract. The invariant: what was left at the start is what was made and what is left now. Assumes nothing.
use native.Mathlib.Omega.{arith}
use Rattle.listed.proofs.CellLaws.{next_passed}
use Rattle.through.proofs.CellTurns.{cells_run, cells_list, cells_small, cells_full, cells_turn, cells_passed, cells_over, cells_kept, cells_first_kept, cells_second_kept, cells_first_long, cells_second_long}
use Rattle.through.proofs.rows.run_cells.Goals as goal

pub loop-cell-init : goal.loop-cell-init
loop-cell-init c = cells_run _ _ _ _ _ _ _ _ _ _ _ _ c.requires

pub run_list-ran-requires : goal.run_list-ran-requires
run_list-ran-requires c = cells_list _ _ _ _ _ _ _ _ _ _ _ _ _ _ _ _ _ _ _ _ _ c.loop-cell.invariant c.loop-cell-test.true _ c.list_of-list.ensures

pub overflow_add-tests : goal.overflow_add-tests
overflow_add-tests c = record { fits = cells_small _ _ _ _ _ _ _ _ _ _ _ _ _ _ _ _ _ _ _ _ _ c.loop-cell.invariant c.loop-cell-test.true _ c.list_of-list.ensures _ _ _ _ _ c.run_list-ran.ensures.ran c.run_list-ran.ensures.same_scratch }

pub shape_of-room-then-first-hits : goal.shape_of-room-then-first-hits
shape_of-room-then-first-hits c = (cells_kept _ _ _ _ _ _ _ _ _ _ _ _ _ _ _ _ _ _ _ _ _ c.loop-cell.invariant c.loop-cell-test.true _ c.list_of-list.ensures _ _ _ _ _ c.run_list-ran.ensures.ran c.run_list-ran.ensures.same_scratch).boxes

pub shape_of-marks-then-first-hits : goal.shape_of-marks-then-first-hits
shape_of-marks-then-first-hits c = (cells_kept _ _ _ _ _ _ _ _ _ _ _ _ _ _ _ _ _ _ _ _ _ c.loop-cell.invariant c.loop-cell-test.true _ c.list_of-list.ensures _ _ _ _ _ c.run_list-ran.ensures.ran c.run_list-ran.ensures.same_scratch).bytes

pub shape_of-first-then-first-hits : goal.shape_of-first-then-first-hits
shape_of-first-then-first-hits c = cells_first_kept _ _ _ _ _ _ _ _ _ _ _ _ _ _ _ _ _ _ _ _ _ c.loop-cell.invariant c.loop-cell-test.true _ c.list_of-list.ensures _ _ _ _ _ c.run_list-ran.ensures.ran c.run_list-ran.ensures.same_scratch

pub shape_of-second-then-first-hits : goal.shape_of-second-then-first-hits
shape_of-second-then-first-hits c = cells_second_kept _ _ _ _ _ _ _ _ _ _ _ _ _ _ _ _ _ _ _ _ _ c.loop-cell.invariant c.loop-cell-test.true _ c.list_of-list.ensures _ _ _ _ _ c.run_list-ran.ensures.ran c.run_list-ran.ensures.same_scratch

pub returns-then-first-hits : goal.returns-then-first-hits
returns-then-first-hits c = cells_full _ _ _ _ _ _ _ _ _ _ _ _ _ _ _ _ _ _ _ _ _ c.loop-cell.invariant c.loop-cell-test.true _ c.list_of-list.ensures _ _ _ _ _ c.run_list-ran.ensures.ran c.run_list-ran.ensures.same_scratch c.if-first-hits.true

pub overflow_add-cell : goal.overflow_add-cell
overflow_add-cell c = omega (arith, c.loop-cell-test.true, c)

pub loop-cell-smaller : goal.loop-cell-smaller
loop-cell-smaller c = omega (arith, c.loop-cell-test.true, c.next_cell-cell.ensures.onward)

pub loop-cell-preserved : goal.loop-cell-preserved
loop-cell-preserved c =
    cells_passed _ _ _ _ _ _ _ _ _ _ _ _ _ _ _ _ _ _ _ _
    (cells_turn _ _ _ _ _ _ _ _ _ _ _ _ _ _ _ _ _ _ _ _ _ c.loop-cell.invariant c.loop-cell-test.true _ c.list_of-list.ensures _ _ _ _ _ c.run_list-ran.ensures.ran c.run_list-ran.ensures.same_scratch c.if-first-hits.false)
    (next_passed _ _ _ _ c.next_cell-cell.ensures)

pub shape_of-room : goal.shape_of-room
shape_of-room c = c.loop-cell.invariant.same.boxes

pub shape_of-marks : goal.shape_of-marks
shape_of-marks c = c.loop-cell.invariant.same.bytes

pub shape_of-first : goal.shape_of-first
shape_of-first c = cells_first_long _ _ _ _ _ _ _ _ _ _ _ _ _ _ _ _ _ _ _ _ _ c.loop-cell.invariant

pub shape_of-second : goal.shape_of-second
shape_of-second c = cells_second_long _ _ _ _ _ _ _ _ _ _ _ _ _ _ _ _ _ _ _ _ _ c.loop-cell.invariant

pub returns : goal.returns
returns c = cells_over _ _ _ _ _ _ _ _ _ _ _ _ _ _ _ _ _ _ _ _ _ c.loop-cell.invariant c.loop-cell-test.false
