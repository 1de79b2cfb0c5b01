-- `replies::made` meets its contract: each case of the answer is handed over. Assumes nothing.
use mathlib.Core.Path.{sym, ap}
use Rattle.seek.specs.declared.Place.{Place}
use Rattle.replies.specs.Answers.{of_place}
use Rattle.replies.proofs.Handing.{answered}
use Rattle.replies.proofs.made.Goals as goal

pub returns-in-Cell : goal.returns-in-Cell
unfolding of_place
returns-in-Cell c = answered (ap (λ (p : Place). of_place p c.args.first c.args.second c.args.overlap) (sym c.in-Cell.is)) c.six.ensures

pub returns-in-Global : goal.returns-in-Global
unfolding of_place
returns-in-Global c = answered (ap (λ (p : Place). of_place p c.args.first c.args.second c.args.overlap) (sym c.in-Global.is)) c.six-in-Global.ensures
