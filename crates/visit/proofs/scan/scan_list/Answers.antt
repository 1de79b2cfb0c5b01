-- `visit::scan::scan_list` meets its contract. The invariant: what a batch of the row makes is what was made and what a batch of the rest makes. Assumes nothing.
use mathlib.Core.Path.{sym, ◌∙◌}
use native.Mathlib.Omega.{arith}
use Rattle.grid.specs.Domain.{lines}
use Rattle.visit.proofs.RowTurns.{list_scan, list_some, list_hit, list_miss, list_full, list_over}
use Rattle.visit.proofs.scan.scan_list.Goals as goal

pub loop-hits-init : goal.loop-hits-init
loop-hits-init c =
    let a = c.args in
    let ls = lines a.start_x.now a.start_y.now a.end_x.now a.end_y.now in
    list_scan ls a.row a.list.now a.j a.first.now a.second.now a.hits c.requires

pub test_in-requires : goal.test_in-requires
test_in-requires c = let p = c.requires in record { row_fits = p.row_fits; below = p.below }

pub offset_bounds-second-hits : goal.offset_bounds-second-hits
offset_bounds-second-hits c = omega (arith, c.loop-hits.invariant.along.first_long, c.loop-hits.invariant.along.second_long)

pub bounds-second-hits : goal.bounds-second-hits
bounds-second-hits c = omega (arith, c.loop-hits.invariant.along.first_long, c.loop-hits.invariant.along.second_long)

pub overflow_add-j : goal.overflow_add-j
overflow_add-j c =
    let a = c.args in
    let l = c.loop-hits in
    let ls = lines a.start_x.now a.start_y.now a.end_x.now a.end_y.now in
    omega (arith, list_some ls a.row a.list.now a.j l.j a.first.now a.second.now a.hits l.first l.second l.hits l.invariant c.in-Some.test (sym c.in-Some.is ∙ c.test_in.ensures))

pub overflow_add-hits : goal.overflow_add-hits
overflow_add-hits c = omega (arith, c.well_formed.1.1.1.1.1.1.1.0)

pub loop-hits-smaller-then-test : goal.loop-hits-smaller-then-test
loop-hits-smaller-then-test c =
    let a = c.args in
    let l = c.loop-hits in
    let ls = lines a.start_x.now a.start_y.now a.end_x.now a.end_y.now in
    omega (arith, list_some ls a.row a.list.now a.j l.j a.first.now a.second.now a.hits l.first l.second l.hits l.invariant c.in-Some.test (sym c.in-Some.is ∙ c.test_in.ensures))

pub loop-hits-preserved-then-test : goal.loop-hits-preserved-then-test
loop-hits-preserved-then-test c =
    let a = c.args in
    let l = c.loop-hits in
    let ls = lines a.start_x.now a.start_y.now a.end_x.now a.end_y.now in
    list_hit ls a.row a.list.now a.j l.j a.first.now a.second.now a.hits l.first l.second l.hits l.invariant c.in-Some.test (sym c.in-Some.is ∙ c.test_in.ensures) (omega (arith, l.invariant.along.first_long, c.loop-hits-test.true)) c.if-test.true

pub loop-hits-smaller : goal.loop-hits-smaller
loop-hits-smaller c =
    let a = c.args in
    let l = c.loop-hits in
    let ls = lines a.start_x.now a.start_y.now a.end_x.now a.end_y.now in
    omega (arith, list_some ls a.row a.list.now a.j l.j a.first.now a.second.now a.hits l.first l.second l.hits l.invariant c.in-Some.test (sym c.in-Some.is ∙ c.test_in.ensures))

pub loop-hits-preserved : goal.loop-hits-preserved
loop-hits-preserved c =
    let a = c.args in
    let l = c.loop-hits in
    let ls = lines a.start_x.now a.start_y.now a.end_x.now a.end_y.now in
    list_miss ls a.row a.list.now a.j l.j a.first.now a.second.now a.hits l.first l.second l.hits l.invariant c.in-Some.test (sym c.in-Some.is ∙ c.test_in.ensures) (omega (arith, l.invariant.along.first_long, c.loop-hits-test.true)) c.if-test.false

pub shape_of-first-after-loop-hits : goal.shape_of-first-after-loop-hits
shape_of-first-after-loop-hits c = c.loop-hits.invariant.along.first_long

pub shape_of-second-after-loop-hits : goal.shape_of-second-after-loop-hits
shape_of-second-after-loop-hits c = c.loop-hits.invariant.along.second_long ∙ sym c.requires.outputs.same

pub returns-after-loop-hits : goal.returns-after-loop-hits
returns-after-loop-hits c =
    let a = c.args in
    let l = c.loop-hits in
    let ls = lines a.start_x.now a.start_y.now a.end_x.now a.end_y.now in
    list_full ls a.row a.list.now a.j l.j a.first.now a.second.now a.hits l.first l.second l.hits l.invariant (omega (arith, l.invariant.along.first_long, c.loop-hits-test.false))

pub shape_of-first-in_default : goal.shape_of-first-in_default
shape_of-first-in_default c = c.loop-hits.invariant.along.first_long

pub shape_of-second-in_default : goal.shape_of-second-in_default
shape_of-second-in_default c = c.loop-hits.invariant.along.second_long ∙ sym c.requires.outputs.same

pub returns-in_default : goal.returns-in_default
returns-in_default c =
    let a = c.args in
    let l = c.loop-hits in
    let ls = lines a.start_x.now a.start_y.now a.end_x.now a.end_y.now in
    list_over ls a.row a.list.now a.j l.j a.first.now a.second.now a.hits l.first l.second l.hits l.invariant (sym c.in_default.is ∙ c.test_in.ensures)
