-- `own::many::check_alike` meets its contract. Assumes nothing.
use Rattle.own.specs.Many.{alike_check}
use Rattle.own.proofs.many.check_alike.Goals as goal

pub returns : goal.returns
unfolding alike_check
returns c = c.refuse_unless.ensures
