-- `crossings::list_crossings` meets its contract: each refusal in its order, then the pairs. Assumes nothing.
use Rattle.std.proofs.lemmas.Result.{err_from_is_err_and}
use mathlib.Core.Path.{refl, ◌∙◌}
use Rattle.samples.specs.Samples.{samples}
use Rattle.first_tests.proofs.MadeLists.{run_asks}
use Rattle.crossings.proofs.Entry.{crossings_stopped, crossings_done}
use Rattle.crossings.proofs.list_crossings.Goals as goal

pub returns-in_err-begin : goal.returns-in_err-begin
returns-in_err-begin c =
    let a = c.args in
    let ss = samples a.start_x.now a.start_y.now a.end_x.now a.end_y.now in
    let p = err_from_is_err_and c.from_residual.result c.from_residual.ensures.1 in
    rw (p.1, p.2)
    (crossings_stopped ss a.grid a.offsets.now a.items.now a.globals.now a.global_count a.first.now a.second.now a.starts.now a.listing.now a.counts.now c.check_sample_lines-lines.ensures c.in_err-begin.ensures _ refl)

pub run-hits-requires : goal.run-hits-requires
run-hits-requires c =
    let w = c.begin in
    run_asks c.in_ok-begin.ensures refl w.auto.starts w.auto.listing w.auto.counts

pub shape_of-first : goal.shape_of-first
shape_of-first c = c.finish.auto.first ∙ c.run-hits.auto.first

pub shape_of-second : goal.shape_of-second
shape_of-second c = c.finish.auto.second ∙ c.run-hits.auto.second

pub shape_of-starts : goal.shape_of-starts
shape_of-starts c = c.finish.auto.starts ∙ c.begin.auto.starts

pub shape_of-listing : goal.shape_of-listing
shape_of-listing c = c.finish.auto.listing ∙ c.begin.auto.listing

pub shape_of-counts : goal.shape_of-counts
shape_of-counts c = c.finish.auto.counts ∙ c.run-hits.auto.counts ∙ c.begin.auto.counts

pub returns : goal.returns
returns c =
    let a = c.args in
    let ss = samples a.start_x.now a.start_y.now a.end_x.now a.end_y.now in
    let w = c.begin in
    let v = c.run-hits in
    crossings_done ss a.grid a.offsets.now a.items.now a.globals.now a.global_count a.first.now a.second.now a.starts.now a.listing.now a.counts.now c.check_sample_lines-lines.ensures c.in_ok-begin.ensures refl v.ensures w.auto.starts w.auto.listing (v.auto.counts ∙ w.auto.counts) c.finish.ensures
