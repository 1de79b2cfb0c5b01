-- `inner_walk::mt_inner_walk` meets its contract. Assumes nothing.
use Rattle.inner_walk.proofs.Reply.{replies}
use Rattle.inner_walk.proofs.mt_inner_walk.Goals as goal

pub returns : goal.returns
returns c =
    rw (← c.grid_of.ensures)
    (replies c.cells_between-r.ensures c.answer.ensures)
