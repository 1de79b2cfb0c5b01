-- `tables::lists_fit` meets its contract. Assumes nothing.
use mathlib.Core.Path.{sym, ◌∙◌}
use lib.Seq.{length-take-le}
use Rattle.tables.proofs.Turns.{first_bad}
use Rattle.tables.proofs.Offsets.{falls_bad, beyond_bad, laid_out, laid_fits}
use Rattle.tables.proofs.lists_fit.Goals as goal

pub returns-then-offsets-ne0 : goal.returns-then-offsets-ne0
returns-then-offsets-ne0 c =
    first_bad c.args.cells c.args.lines c.args.offsets.now c.args.items.now c.if-offsets-ne0.true

pub returns-then-items-total : goal.returns-then-items-total
returns-then-items-total c =
    beyond_bad c.args.cells c.args.lines c.args.offsets.now c.args.items.now c.if-offsets-ne0.false (sym c.never_fall.ensures ∙ c.if-never_fall.true) c.wide-total.result c.wide-total.ensures c.if-items-total.true

pub slice_bounds-lists_rise-end : goal.slice_bounds-lists_rise-end
slice_bounds-lists_rise-end c = sym (length-take-le _ _ c.if-items-total.false)

pub lists_rise-requires : goal.lists_rise-requires
lists_rise-requires c =
    laid_out c.args.cells c.args.lines c.args.offsets.now c.args.items.now c.if-offsets-ne0.false (sym c.never_fall.ensures ∙ c.if-never_fall.true) c.wide-total.result c.wide-total.ensures c.if-items-total.false c.requires (c.shared_slice_known-then-never_fall-1.given c.args.cells).fits

pub returns-then-never_fall : goal.returns-then-never_fall
returns-then-never_fall c =
    c.lists_rise.ensures ∙ laid_fits c.args.cells c.args.lines c.args.offsets.now c.args.items.now c.if-offsets-ne0.false (sym c.never_fall.ensures ∙ c.if-never_fall.true) c.wide-total.result c.wide-total.ensures c.if-items-total.false c.requires (c.shared_slice_known-then-never_fall-1.given c.args.cells).fits

pub returns : goal.returns
returns c =
    falls_bad c.args.cells c.args.lines c.args.offsets.now c.args.items.now c.if-offsets-ne0.false (sym c.never_fall.ensures ∙ c.if-never_fall.false)
