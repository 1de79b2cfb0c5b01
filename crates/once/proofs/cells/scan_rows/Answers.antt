-- `once::cells::scan_rows` meets its contract. Assumes nothing.
use Prim.Native.Nat.{◌+◌}
use native.Mathlib.Omega.{arith}
use Rattle.first_tests.proofs.Lists.{part_all, row_line, rows_done}
use Rattle.first_tests.proofs.Passing.{marks_begin, mark_fits, marked_row, marks_next}
use Rattle.once.proofs.Boxed.{row_first, row_sure, row_held, line_asks}
use Rattle.once.proofs.cells.scan_rows.Goals as goal

pub loop-i-init : goal.loop-i-init
loop-i-init c = let h = c.requires in record { fine = h.fine; asks = marks_begin h.asks }

pub row_of-row-requires : goal.row_of-row-requires
row_of-row-requires c = let h = c.loop-i.invariant in line_asks h.fine (row_line h.asks.rows c.loop-i-test.true)

pub bounds-marks-i : goal.bounds-marks-i
bounds-marks-i c = omega (arith, c.loop-i.invariant.asks.asks.long)

pub overflow_mul-mark : goal.overflow_mul-mark
overflow_mul-mark c = let l = c.loop-i in record { fits = mark_fits _ _ (c.shared_slice_known-in-loop-i-2-1.given l.i).fits l.invariant.asks.asks.most }

pub scan_list-hits-requires : goal.scan_list-hits-requires
scan_list-hits-requires c =
    let l = c.loop-i in
    let e = c.row_of-row.ensures in
    let a = c.args in
    row_held e l.invariant.fine l.invariant.asks.asks.most
    (marked_row l.invariant.asks c.loop-i-test.true (row_first e) (row_sure e) (part_all a.list.now (l.i + 1)) (part_all a.marks.now (l.i + 1)))

pub loop-i-preserved : goal.loop-i-preserved
loop-i-preserved c =
    let l = c.loop-i in
    let d = c.scan_list-hits in
    record {
      fine = l.invariant.fine;
      asks = marks_next l.invariant.asks c.loop-i-test.true (row_first c.row_of-row.ensures) (part_all c.args.list.now (l.i + 1))
          d.ensures d.auto.first d.auto.second;
    }

pub shape_of-first : goal.shape_of-first
shape_of-first c = c.loop-i.invariant.asks.rows.first_long

pub shape_of-second : goal.shape_of-second
shape_of-second c = c.loop-i.invariant.asks.rows.second_long

pub returns : goal.returns
returns c = rows_done c.loop-i.invariant.asks.rows c.loop-i-test.false
