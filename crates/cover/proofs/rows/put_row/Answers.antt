-- `cover::rows::put_row` meets its contract. Assumes nothing.
use Rattle.cover.proofs.Climbing.{grown_by}
use Rattle.cover.proofs.rows.put_row.Goals as goal

pub returns : goal.returns
returns c = grown_by _ c.less.ensures c.put_run.ensures
