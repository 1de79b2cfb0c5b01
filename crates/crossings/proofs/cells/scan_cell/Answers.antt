-- `crossings::cells::scan_cell` meets its contract. Assumes nothing.
use Rattle.first_tests.proofs.Passing.{list_marked}
use Rattle.crossings.proofs.cells.scan_cell.Goals as goal

pub scan_rows-requires : goal.scan_rows-requires
scan_rows-requires c = list_marked c.requires c.mark_list-sure.ensures c.marks_or_list-seen.ensures
