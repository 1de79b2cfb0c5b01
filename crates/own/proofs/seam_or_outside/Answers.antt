-- `own::seam_or_outside` meets its contract, by what the two axes answer. Assumes nothing.
use Rattle.own.proofs.Owners.{in_seam, out_across, out_up}
use Rattle.own.proofs.seam_or_outside.Goals as goal

pub returns-then-up : goal.returns-then-up
returns-then-up c = in_seam _ _ _ _ _ _ _ c.spanned-across.ensures c.x_axis.ensures c.spanned-up.ensures c.y_axis.ensures c.if-across.true c.if-up.true

pub returns-else-up : goal.returns-else-up
returns-else-up c = out_up _ _ _ _ _ _ _ c.spanned-across.ensures c.x_axis.ensures c.spanned-up.ensures c.y_axis.ensures c.if-across.true c.if-up.false

pub returns-else-across : goal.returns-else-across
returns-else-across c = out_across _ _ _ _ _ _ _ c.spanned-across.ensures c.x_axis.ensures c.spanned-up.ensures c.y_axis.ensures c.if-across.false
