-- `once::cells::scan_cell` meets its contract. Assumes nothing.
use native.Mathlib.Omega.{arith}
use Rattle.first_tests.proofs.Lists.{rows_none}
use Rattle.first_tests.proofs.Passing.{cell_marked, list_marked}
use Rattle.short_lists.proofs.Tries.{fits_room}
use Rattle.once.proofs.Boxed.{boxed_done}
use Rattle.once.proofs.cells.scan_cell.Goals as goal

pub returns-then-list-lt2 : goal.returns-then-list-lt2
returns-then-list-lt2 c = rows_none _ c.if-list-lt2.true

pub gather-requires : goal.gather-requires
gather-requires c =
    let h = c.requires in
    record { fine = h.fine; asks = record { below = h.asks.below; room = (fits_room c.fits.ensures c.if-fits.true).boxed } }

pub returns-then-fits : goal.returns-then-fits
returns-then-fits c =
    let h = c.requires in
    let m = c.mark_list-sure.ensures in
    let f = c.fits.ensures in
    let y = c.if-fits.true in
    let g = c.gather in
    boxed_done (cell_marked h.asks m (let r = fits_room f y in omega (arith, r.marked, m.long))) g.ensures g.auto.room f y c.scan.ensures

pub scan_rows-requires : goal.scan_rows-requires
scan_rows-requires c =
    let h = c.requires in
    record { fine = h.fine; asks = list_marked h.asks c.mark_list-sure.ensures c.marks_or_list-seen.ensures }
