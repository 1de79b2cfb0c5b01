-- `resume::starts::start` meets its contract. Assumes nothing.
use Rattle.std.specs.Prelude.{Ok, Result}
use Rattle.refusals.specs.declared.Refusal.{Refusal}
use Rattle.refusals.proofs.Answers.{at_exit}
use Rattle.resume.specs.declared.Cursor.{Cursor}
use native.Mathlib.Omega.{arith}
use mathlib.Core.Path.{ap, ◌∙◌}
use Prim.Native.Nat.{◌*◌}
use lib.ListN.{length}
use Rattle.grid.specs.Domain.{lines}
use Rattle.grid.proofs.Shapes.{wide_product}
use Rattle.tables.specs.Tables.{beside}
use Rattle.seek.proofs.Lengths.{length_increasing}
use Rattle.resume.proofs.AsIs.{globals_increase}
use Rattle.resume.proofs.CursorLaws.{reach_here, reach_most}
use Rattle.resume.proofs.StartLaws.{start_refused, start_asks, start_made, start_end}
use Rattle.resume.proofs.starts.start.Goals as goal

pub spot_of-requires : goal.spot_of-requires
spot_of-requires c =
    let a = c.args in
    let ls = lines a.start_x.now a.start_y.now a.end_x.now a.end_y.now in
    let t = beside ls a.grid a.offsets.now a.items.now a.globals.now a.global_count in
    start_asks ls a.grid t a.bookmark _ (rw c.in-Some.is at c.in_ok-found.ensures)

pub overflow_mul-cells : goal.overflow_mul-cells
overflow_mul-cells c = record { fits = wide_product c.wide.result c.wide-2.result (omega arith) (omega arith) }

pub overflow_add-result : goal.overflow_add-result
overflow_add-result c =
    let a = c.args in
    let ls = lines a.start_x.now a.start_y.now a.end_x.now a.end_y.now in
    let t = beside ls a.grid a.offsets.now a.items.now a.globals.now a.global_count in
    omega (arith, c.reach-reach.ensures, reach_most (c.wide.result * c.wide-2.result) (length a.offsets.now), ap length c.globals_of-listed.ensures, length_increasing (length a.start_x.now) _ (globals_increase (length a.start_x.now) a.globals.now a.global_count), c)

pub returns-in_err-found : goal.returns-in_err-found
returns-in_err-found c =
    let a = c.args in
    let ls = lines a.start_x.now a.start_y.now a.end_x.now a.end_y.now in
    let t = beside ls a.grid a.offsets.now a.items.now a.globals.now a.global_count in
    at_exit c.from_residual.ensures.1 (start_refused ls a.grid t a.bookmark _ c.in_err-found.ensures)

pub returns-in-Some : goal.returns-in-Some
returns-in-Some c =
    let a = c.args in
    let ls = lines a.start_x.now a.start_y.now a.end_x.now a.end_y.now in
    let t = beside ls a.grid a.offsets.now a.items.now a.globals.now a.global_count in
    ap {B = Result Cursor Refusal} (λ (k : Cursor). Ok k) c.spot_of.ensures ∙ start_made ls a.grid t a.bookmark _ (rw c.in-Some.is at c.in_ok-found.ensures)

pub returns : goal.returns
returns c =
    let a = c.args in
    let ls = lines a.start_x.now a.start_y.now a.end_x.now a.end_y.now in
    let t = beside ls a.grid a.offsets.now a.items.now a.globals.now a.global_count in
    start_end ls a.grid t a.bookmark (rw c.in_default.is at c.in_ok-found.ensures) _ _ (reach_here a.grid.rows a.grid.cols (length a.offsets.now) _ _ _ c.wide.ensures c.wide-2.ensures c.reach-reach.ensures) (ap length c.globals_of-listed.ensures)
