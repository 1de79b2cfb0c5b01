-- `replies::whose` meets its contract: each case of the owner is handed over. Assumes nothing.
use mathlib.Core.Path.{sym, ap}
use Rattle.replies.specs.Answers.{of_owner}
use Rattle.replies.proofs.Handing.{answered}
use Rattle.replies.proofs.whose.Goals as goal

pub returns-in-Cell : goal.returns-in-Cell
unfolding of_owner
returns-in-Cell c = answered (ap of_owner (sym c.in-Cell.is)) c.three.ensures

pub returns-in-Seam : goal.returns-in-Seam
unfolding of_owner
returns-in-Seam c = answered (ap of_owner (sym c.in-Seam.is)) c.three-in-Seam.ensures

pub returns-in-Outside : goal.returns-in-Outside
unfolding of_owner
returns-in-Outside c = answered (ap of_owner (sym c.in-Outside.is)) c.three-in-Outside.ensures
