-- `short_lists::scan` meets its contract. Assumes nothing.
use mathlib.Core.Path.{sym, ◌∙◌}
use Rattle.short_lists.proofs.Tries.{fits_room, rows_fit, rows_none, tried_begin, tried_done, tried_row, tried_next}
use Rattle.short_lists.proofs.scan.Goals as goal

pub loop-i-init : goal.loop-i-init
loop-i-init c = tried_begin (fits_room c.fits.ensures c.if-fits.true)

pub scan_row-hits-requires : goal.scan_row-hits-requires
scan_row-hits-requires c = tried_row c.loop-i.invariant c.loop-i-test.true

pub loop-i-preserved : goal.loop-i-preserved
loop-i-preserved c =
    let d = c.scan_row-hits in
    tried_next c.loop-i.invariant c.loop-i-test.true d.ensures d.auto.first d.auto.second

pub shape_of-first-then-fits : goal.shape_of-first-then-fits
shape_of-first-then-fits c = c.loop-i.invariant.first_long

pub shape_of-second-then-fits : goal.shape_of-second-then-fits
shape_of-second-then-fits c = c.loop-i.invariant.second_long

pub returns-then-fits : goal.returns-then-fits
returns-then-fits c = tried_done c.loop-i.invariant c.loop-i-test.false ∙ rows_fit _ _ (sym c.fits.ensures ∙ c.if-fits.true)

pub returns : goal.returns
returns c = rows_none _ _ (sym c.fits.ensures ∙ c.if-fits.false)
