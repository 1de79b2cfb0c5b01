-- `seek::bookmarks::seek_row` meets its contract. The invariant: what is left is dropped from the rows from i on. Assumes nothing.
use native.Mathlib.Omega.{arith}
use Rattle.seek.proofs.SeekTurns.{row_seek, row_none, row_found, row_passed}
use Rattle.seek.proofs.bookmarks.seek_row.Goals as goal

pub loop-i-init : goal.loop-i-init
loop-i-init c = row_seek c.args.len c.args.left c.requires

pub returns-then-left-row : goal.returns-then-left-row
returns-then-left-row c =
    let a = c.args in
    let l = c.loop-i in
    rw c.wide.ensures (row_found a.len a.left l.left l.i l.invariant c.loop-i-test.true (omega (arith, c.from-row.ensures)))

pub loop-i-preserved : goal.loop-i-preserved
loop-i-preserved c =
    let a = c.args in
    let l = c.loop-i in
    rw c.from-row.ensures (row_passed a.len a.left l.left l.i l.invariant c.loop-i-test.true (omega (arith, c.from-row.ensures)))

pub returns : goal.returns
returns c =
    let a = c.args in
    let l = c.loop-i in
    absurd (row_none a.len a.left l.left l.i l.invariant c.loop-i-test.false)
