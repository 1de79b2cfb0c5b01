-- `window::marks::mark_block` meets its contract, by the block of the two corners. Assumes nothing.
use mathlib.Core.Path.{refl, ap, ◌∙◌}
use native.Mathlib.Omega.{arith}
use Rattle.grid.specs.declared.Axis.{Axis}
use Rattle.grid.specs.Axes.{index_on}
use Rattle.window.proofs.Corners.{no_columns, crossed, block, marked}
use Rattle.window.proofs.marks.mark_block.Goals as goal

pub returns-then-grid-eq0 : goal.returns-then-grid-eq0
returns-then-grid-eq0 c =
    let a = c.args in
    no_columns a.grid a.lines a.offsets.now a.items.now a.globals.now a.global_count a.window (omega arith) _

pub returns-then-last-first : goal.returns-then-last-first
returns-then-last-first c =
    let a = c.args in
    crossed a.grid a.lines a.offsets.now a.items.now a.globals.now a.global_count a.window _ _ (c.index-first.ensures ∙ ap (λ (x : Axis). index_on x a.window.min_x) c.x_axis.ensures) (c.index-last.ensures ∙ ap (λ (x : Axis). index_on x a.window.max_x) c.x_axis-2.ensures) (omega arith) _

pub mark_rows-requires : goal.mark_rows-requires
mark_rows-requires c =
    let a = c.args in
    let h = c.requires in
    block a.grid a.lines a.offsets.now a.items.now a.globals.now a.global_count a.window h.fit_grid h.tables_fit (omega arith) _ _ _ _ (c.wide-2.ensures ∙ c.index-first.ensures ∙ ap (λ (x : Axis). index_on x a.window.min_x) c.x_axis.ensures) (c.wide-3.ensures ∙ c.index-last.ensures ∙ ap (λ (x : Axis). index_on x a.window.max_x) c.x_axis-2.ensures) (c.wide-4.ensures ∙ c.index-from.ensures ∙ ap (λ (x : Axis). index_on x a.window.min_y) c.y_axis.ensures) (c.wide-5.ensures ∙ c.index-to.ensures ∙ ap (λ (x : Axis). index_on x a.window.max_y) c.y_axis-2.ensures) (omega (arith, c.wide-2.ensures, c.wide-3.ensures)) _ _ _ c.wide.ensures refl h.lines_marked

pub returns : goal.returns
returns c =
    let a = c.args in
    let h = c.requires in
    marked a.grid a.lines a.offsets.now a.items.now a.globals.now a.global_count a.window h.fit_grid h.tables_fit (omega (arith, c.if-grid-eq0.false)) _ _ _ _ (c.wide-2.ensures ∙ c.index-first.ensures ∙ ap (λ (x : Axis). index_on x a.window.min_x) c.x_axis.ensures) (c.wide-3.ensures ∙ c.index-last.ensures ∙ ap (λ (x : Axis). index_on x a.window.max_x) c.x_axis-2.ensures) (c.wide-4.ensures ∙ c.index-from.ensures ∙ ap (λ (x : Axis). index_on x a.window.min_y) c.y_axis.ensures) (c.wide-5.ensures ∙ c.index-to.ensures ∙ ap (λ (x : Axis). index_on x a.window.max_y) c.y_axis-2.ensures) (omega (arith, c.wide-2.ensures, c.wide-3.ensures)) _ _ _ _ c.wide.ensures refl c.mark_rows.ensures
