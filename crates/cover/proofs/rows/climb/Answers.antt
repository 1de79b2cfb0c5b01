-- `cover::rows::climb` meets its contract. Assumes nothing.
use mathlib.Core.Path.{◌∙◌}
use native.Mathlib.Omega.{arith}
use Rattle.cover.proofs.Climbing.{climbing_start, climbing_row, climbing_room, climbing_more, climbing_on, climbing_last, climbing_done}
use Rattle.cover.proofs.rows.climb.Goals as goal

pub slope-s-requires : goal.slope-s-requires
slope-s-requires c = c.requires.frame.small

pub start_columns-requires : goal.start_columns-requires
start_columns-requires c =
    let p = c.requires in
    let h = p.rises in
    record { covered = climbing_row (climbing_start c.args.scratch.now p c.slope-s.ensures) (omega arith); at_first = p.first_is }

pub put_row-n-requires : goal.put_row-n-requires
put_row-n-requires c =
    let p = c.requires in
    let h = p.rises in
    climbing_room (climbing_start c.args.scratch.now p c.slope-s.ensures) (omega arith) c.start_columns.ensures

pub loop-r-init : goal.loop-r-init
loop-r-init c =
    let p = c.requires in
    let h = p.rises in
    let k = climbing_more (climbing_start _ p c.slope-s.ensures) (omega arith) c.start_columns.ensures c.put_row-n.ensures in
    (climbing_on k, omega arith)

pub columns-requires : goal.columns-requires
columns-requires c = record { covered = climbing_row c.loop-r.invariant.0 (omega arith); before_last = omega arith }

pub put_row-n-requires-in-loop-r : goal.put_row-n-requires-in-loop-r
put_row-n-requires-in-loop-r c = climbing_room c.loop-r.invariant.0 (omega arith) c.columns.ensures

pub loop-r-preserved : goal.loop-r-preserved
loop-r-preserved c = (climbing_more c.loop-r.invariant.0 (omega arith) c.columns.ensures c.put_row-n-in-loop-r.ensures, omega arith)

pub end_columns-requires : goal.end_columns-requires
end_columns-requires c = climbing_row (climbing_last c.loop-r.invariant.0 c.loop-r.invariant.1 (omega arith)) (omega arith)

pub put_row-requires : goal.put_row-requires
put_row-requires c = climbing_room (climbing_last c.loop-r.invariant.0 c.loop-r.invariant.1 (omega arith)) (omega arith) c.end_columns.ensures

pub shape_of-scratch : goal.shape_of-scratch
shape_of-scratch c = c.put_row.ensures.len ∙ c.loop-r.invariant.0.len ∙ c.put_row-n.ensures.len

pub returns : goal.returns
returns c =
    let p = climbing_last c.loop-r.invariant.0 c.loop-r.invariant.1 (omega arith) in
    climbing_done (climbing_more p (omega arith) c.end_columns.ensures c.put_row.ensures) (omega arith)
