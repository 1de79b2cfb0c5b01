-- `by_line::passes::place_all` meets its contract. Assumes nothing.
use Rattle.by_line.proofs.Turns.{placing_none, placing_can, placing_more, placing_done}
use Rattle.by_line.proofs.passes.place_all.Goals as goal

pub loop-cell-init : goal.loop-cell-init
loop-cell-init c = placing_none c.requires

pub list_of-requires : goal.list_of-requires
list_of-requires c = record { m = _; fits = c.loop-cell.invariant.asks.table.fits; inside = c.loop-cell-test.true }

pub place_list-requires : goal.place_list-requires
place_list-requires c = placing_can c.loop-cell.invariant c.loop-cell-test.true c.list_of.ensures

pub loop-cell-preserved : goal.loop-cell-preserved
loop-cell-preserved c = placing_more c.loop-cell.invariant c.loop-cell-test.true c.list_of.ensures c.place_list.auto.starts c.place_list.auto.listing c.place_list.ensures

pub shape_of-starts : goal.shape_of-starts
shape_of-starts c = c.loop-cell.invariant.len

pub shape_of-listing : goal.shape_of-listing
shape_of-listing c = c.loop-cell.invariant.len_listing

pub returns : goal.returns
returns c = placing_done c.loop-cell.invariant c.loop-cell-test.false
