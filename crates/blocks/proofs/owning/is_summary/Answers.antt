-- `blocks::owning::is_summary` meets its contract: what is asked first, then number by number. Assumes nothing.
use mathlib.Core.Path.{refl, sym, ◌∙◌}
use native.Mathlib.Omega.{arith}
use borrow.Author.Tests.{not-false, not-true}
use Rattle.blocks.proofs.Owns.{unfit_none, falling_none, short_none, numbers_ask, room_for, same_is}
use Rattle.blocks.proofs.owning.is_summary.Goals as goal

pub returns-then-not-is_fit : goal.returns-then-not-is_fit
returns-then-not-is_fit c =
    let a = c.args in
    unfit_none a.grid a.offsets.now a.summary.now (sym c.is_fit.ensures ∙ not-true _ c.if-not-is_fit.true-raw)

pub returns-then-not-is_rising : goal.returns-then-not-is_rising
returns-then-not-is_rising c =
    let a = c.args in
    falling_none a.grid a.offsets.now a.summary.now (sym c.is_fit.ensures ∙ not-false _ c.if-not-is_fit.false-raw) (sym c.is_rising.ensures ∙ not-true _ c.if-not-is_rising.true-raw)

pub returns-then-summary-blocks : goal.returns-then-summary-blocks
returns-then-summary-blocks c =
    let a = c.args in
    short_none a.grid a.offsets.now a.summary.now (sym c.is_fit.ensures ∙ not-false _ c.if-not-is_fit.false-raw) (sym c.is_rising.ensures ∙ not-false _ c.if-not-is_rising.false-raw) (rw (← c.block_count-blocks.ensures) c.if-summary-blocks.true)

pub add_rows-requires : goal.add_rows-requires
add_rows-requires c =
    let both = let a = c.args in
    numbers_ask a.grid a.offsets.now a.summary.now (sym c.is_fit.ensures ∙ not-false _ c.if-not-is_fit.false-raw) (sym c.is_rising.ensures ∙ not-false _ c.if-not-is_rising.false-raw) _ refl in
    record { fills = both.0; told = both.1 }

pub are_same-requires : goal.are_same-requires
are_same-requires c =
    let a = c.args in
    let e = c.block_count-blocks.ensures in
    (rw e (room_for a.grid a.offsets.now a.summary.now (sym c.is_fit.ensures ∙ not-false _ c.if-not-is_fit.false-raw) (sym c.is_rising.ensures ∙ not-false _ c.if-not-is_rising.false-raw) _ _ refl c.add_rows.ensures), omega arith)

pub returns : goal.returns
returns c =
    let a = c.args in
    rw c.block_count-blocks.ensures at c.are_same.ensures
    ∙ same_is a.grid a.offsets.now a.summary.now (sym c.is_fit.ensures ∙ not-false _ c.if-not-is_fit.false-raw) (sym c.is_rising.ensures ∙ not-false _ c.if-not-is_rising.false-raw) (rw (← c.block_count-blocks.ensures) (omega arith)) _ _ c.add_rows.ensures
