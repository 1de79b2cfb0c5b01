-- `short_lists::fits` meets its contract. Assumes nothing.
use Rattle.short_lists.proofs.Tries.{fits_long, fits_unmarked, fits_unboxed, fits_all}
use Rattle.short_lists.proofs.fits.Goals as goal

pub returns-then-list-gt64 : goal.returns-then-list-gt64
returns-then-list-gt64 c = fits_long _ _ _ _ c.if-list-gt64.true

pub returns-then-marks-list : goal.returns-then-marks-list
returns-then-marks-list c = fits_unmarked _ _ _ _ c.if-list-gt64.false c.if-marks-list.true

pub returns-then-room-list : goal.returns-then-room-list
returns-then-room-list c = fits_unboxed _ _ _ _ c.if-list-gt64.false c.if-marks-list.false c.if-room-list.true

pub returns : goal.returns
returns c = fits_all _ _ _ _ c.if-list-gt64.false c.if-marks-list.false c.if-room-list.false
