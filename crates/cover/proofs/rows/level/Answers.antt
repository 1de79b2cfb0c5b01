-- `cover::rows::level` meets its contract. Assumes nothing.
use Rattle.cover.proofs.Climbing.{level_room, level_done}
use Rattle.cover.proofs.rows.level.Goals as goal

pub put_row-requires : goal.put_row-requires
put_row-requires c = level_room c.requires c.lesser.ensures c.cell.ensures c.larger.ensures c.cell-2.ensures

pub returns : goal.returns
returns c =
    level_done c.requires c.lesser.ensures c.cell.ensures c.larger.ensures c.cell-2.ensures
    c.put_row.ensures
