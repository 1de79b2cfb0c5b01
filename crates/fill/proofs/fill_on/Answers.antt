-- `fill::fill_on` meets its contract. Assumes nothing.
use Rattle.std.specs.Prelude.{Ok}
use mathlib.Core.Path.{◌≡◌, ap, ◌∙◌}
use Rattle.fill.specs.declared.Filled.TheVariants.{Tables, Crowded}
use Rattle.fill.proofs.Fills.{lay_place, lay_made}
use Rattle.fill.proofs.Entries.{fill_asks, fill_made, fill_crowded, fill_refused}
use Rattle.fill.proofs.fill_on.Goals as goal

pub place_lines-requires : goal.place_lines-requires
place_lines-requires c =
    let f : c.in-Ok-Tables.field-0 ≡ Tables c.in-Ok-Tables.total c.in-Ok-Tables.field-0-1 = rw c.in-Ok-Tables.is at c.in-Ok-Tables.field-0-is in
    let e : c.plan-planned.result ≡ Ok (Tables c.in-Ok-Tables.total c.in-Ok-Tables.field-0-1) = c.in-Ok-Tables.is ∙ ap Ok f in
    let t = c.clear_from in
    let g = c.clear in
    lay_place (fill_asks c.plan-planned.ensures _ _ e) _ t.ensures t.auto.s g.ensures g.auto.s

pub cell_count-requires : goal.cell_count-requires
cell_count-requires c =
    let f : c.in-Ok-Tables.field-0 ≡ Tables c.in-Ok-Tables.total c.in-Ok-Tables.field-0-1 = rw c.in-Ok-Tables.is at c.in-Ok-Tables.field-0-is in
    let e : c.plan-planned.result ≡ Ok (Tables c.in-Ok-Tables.total c.in-Ok-Tables.field-0-1) = c.in-Ok-Tables.is ∙ ap Ok f in
    (fill_asks c.plan-planned.ensures _ _ e).asks.walkable.fits

pub shape_of-offsets-in-Ok-Tables : goal.shape_of-offsets-in-Ok-Tables
shape_of-offsets-in-Ok-Tables c = c.shift_back.auto.offsets ∙ c.place_lines.auto.offsets ∙ c.plan-planned.auto.offsets

pub shape_of-items-in-Ok-Tables : goal.shape_of-items-in-Ok-Tables
shape_of-items-in-Ok-Tables c = c.place_lines.auto.items ∙ c.clear_from.auto.s

pub shape_of-globals-in-Ok-Tables : goal.shape_of-globals-in-Ok-Tables
shape_of-globals-in-Ok-Tables c = c.place_lines.auto.globals ∙ c.clear.auto.s

pub shape_of-scratch-in-Ok-Tables : goal.shape_of-scratch-in-Ok-Tables
shape_of-scratch-in-Ok-Tables c = c.clear-in-Ok-Tables.auto.s ∙ c.place_lines.auto.scratch ∙ c.plan-planned.auto.scratch

pub returns-in-Ok-Tables : goal.returns-in-Ok-Tables
returns-in-Ok-Tables c =
    let f : c.in-Ok-Tables.field-0 ≡ Tables c.in-Ok-Tables.total c.in-Ok-Tables.field-0-1 = rw c.in-Ok-Tables.is at c.in-Ok-Tables.field-0-is in
    let e : c.plan-planned.result ≡ Ok (Tables c.in-Ok-Tables.total c.in-Ok-Tables.field-0-1) = c.in-Ok-Tables.is ∙ ap Ok f in
    let k = c.plan-planned in
    let p = c.place_lines in
    rw e (fill_made k.ensures k.auto.offsets k.auto.scratch _ _ e
    (lay_made (fill_asks k.ensures _ _ e) c.cell_count.ensures.0 p.ensures c.shift_back.ensures c.clear-in-Ok-Tables.ensures
    (c.shift_back.auto.offsets ∙ p.auto.offsets) (p.auto.items ∙ c.clear_from.auto.s) c.clear.auto.s p.auto.scratch))

pub shape_of-offsets-in-Ok-Crowded : goal.shape_of-offsets-in-Ok-Crowded
shape_of-offsets-in-Ok-Crowded c = c.clear-in-Ok-Crowded.auto.s ∙ c.plan-planned.auto.offsets

pub shape_of-scratch-in-Ok-Crowded : goal.shape_of-scratch-in-Ok-Crowded
shape_of-scratch-in-Ok-Crowded c = c.clear-in-Ok-Crowded-4.auto.s ∙ c.plan-planned.auto.scratch

pub returns-in-Ok-Crowded : goal.returns-in-Ok-Crowded
returns-in-Ok-Crowded c =
    let f : c.in-Ok-Crowded.field-0 ≡ Crowded = rw c.in-Ok-Crowded.is at c.in-Ok-Crowded.field-0-is in
    let e : c.plan-planned.result ≡ Ok Crowded = c.in-Ok-Crowded.is ∙ ap Ok f in
    let k = c.plan-planned in
    fill_crowded k.ensures k.auto.offsets k.auto.scratch e
    c.clear-in-Ok-Crowded.ensures c.clear-in-Ok-Crowded-2.ensures c.clear-in-Ok-Crowded-3.ensures c.clear-in-Ok-Crowded-4.ensures

pub shape_of-offsets-in-Err : goal.shape_of-offsets-in-Err
shape_of-offsets-in-Err c = c.leave.auto.s ∙ c.plan-planned.auto.offsets

pub shape_of-scratch-in-Err : goal.shape_of-scratch-in-Err
shape_of-scratch-in-Err c = c.leave-in-Err-3.auto.s ∙ c.plan-planned.auto.scratch

pub returns-in-Err : goal.returns-in-Err
returns-in-Err c =
    let k = c.plan-planned in
    fill_refused k.ensures k.auto.offsets k.auto.scratch _ c.in-Err.is c.leave.ensures c.leave-in-Err.ensures c.leave-in-Err-2.ensures c.leave-in-Err-3.ensures
