-- `visit::scan::scan_lines` meets its contract. The invariant: what a batch of the row makes is what was made and what a batch of the rest makes. Assumes nothing.
use mathlib.Core.Path.{sym, ◌∙◌}
use native.Mathlib.Omega.{arith}
use Rattle.grid.specs.Domain.{lines}
use Rattle.visit.proofs.RowTurns.{lines_scan, lines_some, lines_hit, lines_miss, lines_full, lines_over}
use Rattle.visit.proofs.scan.scan_lines.Goals as goal

pub loop-hits-init : goal.loop-hits-init
loop-hits-init c =
    let a = c.args in
    let ls = lines a.start_x.now a.start_y.now a.end_x.now a.end_y.now in
    lines_scan ls a.row a.k a.stop a.first.now a.second.now a.hits c.requires

pub test_before-requires : goal.test_before-requires
test_before-requires c = let p = c.requires in record { row_fits = p.row_fits; below = p.below }

pub offset_bounds-second-hits : goal.offset_bounds-second-hits
offset_bounds-second-hits c = omega (arith, c.loop-hits.invariant.along.first_long, c.loop-hits.invariant.along.second_long)

pub bounds-second-hits : goal.bounds-second-hits
bounds-second-hits c = omega (arith, c.loop-hits.invariant.along.first_long, c.loop-hits.invariant.along.second_long)

pub overflow_add-k : goal.overflow_add-k
overflow_add-k c =
    let a = c.args in
    let l = c.loop-hits in
    let ls = lines a.start_x.now a.start_y.now a.end_x.now a.end_y.now in
    omega (arith, lines_some ls a.row a.stop a.k l.k a.first.now a.second.now a.hits l.first l.second l.hits l.invariant c.in-Some.test (sym c.in-Some.is ∙ c.test_before.ensures), c.ranges)

pub loop-hits-smaller-then-test : goal.loop-hits-smaller-then-test
loop-hits-smaller-then-test c =
    let a = c.args in
    let l = c.loop-hits in
    let ls = lines a.start_x.now a.start_y.now a.end_x.now a.end_y.now in
    omega (arith, lines_some ls a.row a.stop a.k l.k a.first.now a.second.now a.hits l.first l.second l.hits l.invariant c.in-Some.test (sym c.in-Some.is ∙ c.test_before.ensures))

pub loop-hits-preserved-then-test : goal.loop-hits-preserved-then-test
loop-hits-preserved-then-test c =
    let a = c.args in
    let l = c.loop-hits in
    let ls = lines a.start_x.now a.start_y.now a.end_x.now a.end_y.now in
    lines_hit ls a.row a.stop a.k l.k a.first.now a.second.now a.hits l.first l.second l.hits l.invariant c.in-Some.test (sym c.in-Some.is ∙ c.test_before.ensures) (omega (arith, l.invariant.along.first_long, c.loop-hits-test.true)) c.if-test.true

pub loop-hits-smaller : goal.loop-hits-smaller
loop-hits-smaller c =
    let a = c.args in
    let l = c.loop-hits in
    let ls = lines a.start_x.now a.start_y.now a.end_x.now a.end_y.now in
    omega (arith, lines_some ls a.row a.stop a.k l.k a.first.now a.second.now a.hits l.first l.second l.hits l.invariant c.in-Some.test (sym c.in-Some.is ∙ c.test_before.ensures))

pub loop-hits-preserved : goal.loop-hits-preserved
loop-hits-preserved c =
    let a = c.args in
    let l = c.loop-hits in
    let ls = lines a.start_x.now a.start_y.now a.end_x.now a.end_y.now in
    lines_miss ls a.row a.stop a.k l.k a.first.now a.second.now a.hits l.first l.second l.hits l.invariant c.in-Some.test (sym c.in-Some.is ∙ c.test_before.ensures) (omega (arith, l.invariant.along.first_long, c.loop-hits-test.true)) c.if-test.false

pub shape_of-first-after-loop-hits : goal.shape_of-first-after-loop-hits
shape_of-first-after-loop-hits c = c.loop-hits.invariant.along.first_long

pub shape_of-second-after-loop-hits : goal.shape_of-second-after-loop-hits
shape_of-second-after-loop-hits c = c.loop-hits.invariant.along.second_long ∙ sym c.requires.outputs.same

pub returns-after-loop-hits : goal.returns-after-loop-hits
returns-after-loop-hits c =
    let a = c.args in
    let l = c.loop-hits in
    let ls = lines a.start_x.now a.start_y.now a.end_x.now a.end_y.now in
    lines_full ls a.row a.stop a.k l.k a.first.now a.second.now a.hits l.first l.second l.hits l.invariant (omega (arith, l.invariant.along.first_long, c.loop-hits-test.false))

pub shape_of-first-in_default : goal.shape_of-first-in_default
shape_of-first-in_default c = c.loop-hits.invariant.along.first_long

pub shape_of-second-in_default : goal.shape_of-second-in_default
shape_of-second-in_default c = c.loop-hits.invariant.along.second_long ∙ sym c.requires.outputs.same

pub returns-in_default : goal.returns-in_default
returns-in_default c =
    let a = c.args in
    let l = c.loop-hits in
    let ls = lines a.start_x.now a.start_y.now a.end_x.now a.end_y.now in
    lines_over ls a.row a.stop a.k l.k a.first.now a.second.now a.hits l.first l.second l.hits l.invariant (sym c.in_default.is ∙ c.test_before.ensures)
