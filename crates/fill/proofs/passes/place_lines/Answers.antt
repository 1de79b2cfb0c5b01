-- `fill::passes::place_lines` meets its contract. Assumes nothing.
use native.Mathlib.Omega.{arith}
use Rattle.fill.proofs.Places.{placing_all, placing_walk, placing_can, placing_few, placing_room, placing_found, placing_global, placing_local, placing_end}
use Rattle.fill.proofs.passes.place_lines.Goals as goal
use Rattle.fill.proofs.passes.place_lines.Goals.{then-more-gt0, else-more-gt0}

pub loop-i-init : goal.loop-i-init
loop-i-init c = placing_all c.requires

pub walk_line-walked-requires : goal.walk_line-walked-requires
walk_line-walked-requires c = placing_walk c.loop-i.invariant c.loop-i-test.true

pub place_visits-more-requires : goal.place_visits-more-requires
place_visits-more-requires c = placing_can c.loop-i.invariant c.loop-i-test.true c.walk_line-walked.ensures

pub overflow_cast-globals : goal.overflow_cast-globals
overflow_cast-globals c = omega (arith, c.loop-i.invariant.walkable.few, c.loop-i-test.true)

pub offset_bounds-globals-found : goal.offset_bounds-globals-found
offset_bounds-globals-found c = omega (arith, placing_few c.loop-i.invariant c.loop-i-test.true)

pub bounds-globals-found : goal.bounds-globals-found
bounds-globals-found c =
    let p = c.place_visits-more in
    placing_room c.loop-i.invariant c.loop-i-test.true c.walk_line-walked.ensures p.ensures p.auto.offsets p.auto.items c.if-more-gt0.true

pub overflow_add-found : goal.overflow_add-found
overflow_add-found c =
    let p = c.place_visits-more in
    placing_found c.loop-i.invariant c.loop-i-test.true c.walk_line-walked.ensures p.ensures p.auto.offsets p.auto.items

pub loop-i-preserved : goal.loop-i-preserved
loop-i-preserved c =
    let p = c.place_visits-more in
    elim c.if-more-gt0.branch [
      | then-more-gt0 w ↦
          rw (w.globals-is, w.found-is)
          (placing_global c.loop-i.invariant c.loop-i-test.true c.walk_line-walked.ensures p.ensures p.auto.offsets p.auto.items w.if-more-gt0.true c.walk_line-walked.auto.scratch)
      | else-more-gt0 w ↦
          rw (w.globals-is, w.found-is)
          (placing_local c.loop-i.invariant c.loop-i-test.true c.walk_line-walked.ensures p.ensures p.auto.offsets p.auto.items w.if-more-gt0.false c.walk_line-walked.auto.scratch)
    ]

pub shape_of-offsets : goal.shape_of-offsets
shape_of-offsets c = c.loop-i.invariant.len

pub shape_of-items : goal.shape_of-items
shape_of-items c = c.loop-i.invariant.len_items

pub shape_of-globals : goal.shape_of-globals
shape_of-globals c = c.loop-i.invariant.len_globals

pub shape_of-scratch : goal.shape_of-scratch
shape_of-scratch c = c.loop-i.invariant.len_scratch

pub returns : goal.returns
returns c = placing_end c.loop-i.invariant c.loop-i-test.false
