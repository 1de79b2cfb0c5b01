-- `seek::lists::check_place` meets its contract. Assumes nothing.
use Rattle.seek.specs.Places.{place_check}
use Rattle.seek.proofs.lists.check_place.Goals as goal

pub returns-in-Cell : goal.returns-in-Cell
unfolding place_check
returns-in-Cell c = rw c.in-Cell.is c.check_cell.ensures

pub returns-in-Global : goal.returns-in-Global
unfolding place_check
returns-in-Global c = rw c.in-Global.is c.refuse_unless.ensures
