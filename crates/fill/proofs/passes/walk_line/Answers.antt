-- `fill::passes::walk_line` meets its contract. Assumes nothing.
use Rattle.std.specs.Prelude.{Ok}
use mathlib.Core.Path.{◌≡◌, ap, ◌∙◌}
use Rattle.walk.specs.declared.Reached.TheVariants.{Found, Everywhere}
use Rattle.fill.proofs.Walks.{walk_found, walk_everywhere, walk_over}
use Rattle.fill.proofs.passes.walk_line.Goals as goal

pub cell_count-requires : goal.cell_count-requires
cell_count-requires c = c.requires.walkable.fits

pub returns-in-Ok-Found : goal.returns-in-Ok-Found
returns-in-Ok-Found c =
    let f : c.in-Ok-Found.field-0 ≡ Found c.in-Ok-Found.n = rw c.in-Ok-Found.is at c.in-Ok-Found.field-0-is in
    let e : c.cells_between-reached.result ≡ Ok (Found c.in-Ok-Found.n) = c.in-Ok-Found.is ∙ ap Ok f in
    let w = c.cells_between-reached in
    let h = rw c.segment_at-line.ensures at w.ensures in
    walk_found _ _ _ _ c.requires w.result h _ e

pub returns-in-Ok-Everywhere : goal.returns-in-Ok-Everywhere
returns-in-Ok-Everywhere c =
    let f : c.in-Ok-Everywhere.field-0 ≡ Everywhere = rw c.in-Ok-Everywhere.is at c.in-Ok-Everywhere.field-0-is in
    let e : c.cells_between-reached.result ≡ Ok (Everywhere) = c.in-Ok-Everywhere.is ∙ ap Ok f in
    let w = c.cells_between-reached in
    let h = rw c.segment_at-line.ensures at w.ensures in
    walk_everywhere _ _ _ _ c.requires w.result h _ e c.cell_count.ensures.0

pub returns-in-Err : goal.returns-in-Err
returns-in-Err c =
    let w = c.cells_between-reached in
    let h = rw c.segment_at-line.ensures at w.ensures in
    walk_over _ _ _ _ c.requires w.result h _ c.in-Err.is
