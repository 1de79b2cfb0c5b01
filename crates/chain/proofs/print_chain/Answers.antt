-- `chain::print_chain` meets its contract. Assumes nothing.
use Rattle.report.proofs.Written.{end_within, prints}
use Rattle.chain.proofs.print_chain.Goals as goal

pub slice_bounds-clear-count : goal.slice_bounds-clear-count
slice_bounds-clear-count c = end_within _ c.args.out.now _ _ c.put_chain-end.ensures c.put_chain-end.auto.out

pub slice_bounds-clear-start : goal.slice_bounds-clear-start
slice_bounds-clear-start c = end_within _ c.args.out.now _ _ c.put_chain-end.ensures c.put_chain-end.auto.out

pub returns : goal.returns
returns c = prints _ c.args.out.now _ _ _ c.put_chain-end.ensures c.put_chain-end.auto.out c.clear.ensures
