-- `crossing_chain::show::put_crossings` meets its contract. Assumes nothing.
use Rattle.report.proofs.Putting.{puts_then}
use Rattle.crossing_chain.proofs.show.put_crossings.Goals as goal

pub returns : goal.returns
returns c = puts_then c.crossings_line-at.ensures c.put_pairs.ensures
