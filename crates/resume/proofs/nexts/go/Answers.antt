-- `resume::nexts::go` meets its contract. Assumes nothing.
use native.Mathlib.Omega.{arith}
use borrow.Author.Tests.{ltb-true}
use lib.ListN.{length}
use Rattle.grid.specs.Domain.{lines}
use Rattle.grid.proofs.Shapes.{wide_product}
use Rattle.resume.proofs.CursorLaws.{reach_here}
use Rattle.resume.proofs.NextLaws.{go_runs, go_settles, go_is}
use Rattle.resume.proofs.nexts.go.Goals as goal

pub overflow_mul-wide : goal.overflow_mul-wide
overflow_mul-wide c = record { fits = wide_product c.wide.result c.wide-2.result (omega arith) (omega arith) }

pub run-ran-requires : goal.run-ran-requires
run-ran-requires c =
    let a = c.args in
    let ls = lines a.start_x.now a.start_y.now a.end_x.now a.end_y.now in
    let m = reach_here a.grid.rows a.grid.cols (length a.offsets.now) _ _ _ c.wide.ensures c.wide-2.ensures c.reach-reach.ensures in
    go_runs ls a.grid a.offsets.now a.items.now a.globals.now a.global_count a.cursor a.first.now a.second.now _ m _ c.globals_of-listed.ensures c.requires

pub finish-requires : goal.finish-requires
finish-requires c = λ h. c.run-ran.ensures.first_zero (ltb-true _ _ h)

pub finish-requires-2 : goal.finish-requires-2
finish-requires-2 c = λ h. c.run-ran.ensures.second_zero (ltb-true _ _ h)

pub cursor_at-after-requires : goal.cursor_at-after-requires
cursor_at-after-requires c =
    let a = c.args in
    let ls = lines a.start_x.now a.start_y.now a.end_x.now a.end_y.now in
    let m = reach_here a.grid.rows a.grid.cols (length a.offsets.now) _ _ _ c.wide.ensures c.wide-2.ensures c.reach-reach.ensures in
    go_settles ls a.grid a.offsets.now a.items.now a.globals.now a.global_count a.cursor a.first.now a.second.now _ m _ c.globals_of-listed.ensures _ _ _ c.run-ran.ensures c.requires

pub returns : goal.returns
returns c =
    let a = c.args in
    let ls = lines a.start_x.now a.start_y.now a.end_x.now a.end_y.now in
    let m = reach_here a.grid.rows a.grid.cols (length a.offsets.now) _ _ _ c.wide.ensures c.wide-2.ensures c.reach-reach.ensures in
    let w = c.run-ran.ensures in
    go_is ls a.grid a.offsets.now a.items.now a.globals.now a.global_count a.cursor a.first.now a.second.now _ m _ c.globals_of-listed.ensures _ _ _ w _ _ _ c.finish.ensures c.finish-2.ensures (c.cursor_at-after.ensures w.rest w.at)
