-- `blocks::items_in` meets its contract: each refusal in its order, then the sum. Assumes nothing.
use Rattle.refusals.proofs.Answers.{at_exit}
use mathlib.Core.Path.{sym}
use Rattle.blocks.proofs.Entry.{query_refused, query_asks, query_done}
use Rattle.blocks.proofs.items_in.Goals as goal

pub returns-in_err-check_query : goal.returns-in_err-check_query
returns-in_err-check_query c = at_exit c.from_residual.ensures.1 (let a = c.args in query_refused a.grid a.summary.now a.low a.high _ (sym c.in_err-check_query.ensures))

pub add_rectangle-requires : goal.add_rectangle-requires
add_rectangle-requires c = let a = c.args in query_asks a.grid a.summary.now a.low a.high (sym c.in_ok-check_query.ensures)

pub returns : goal.returns
returns c = let a = c.args in query_done a.grid a.summary.now a.low a.high (sym c.in_ok-check_query.ensures) _ c.add_rectangle.ensures
