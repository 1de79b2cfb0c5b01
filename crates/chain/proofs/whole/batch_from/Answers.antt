use mathlib.Core.Path.{refl}
use Rattle.chain.proofs.Visiting.{batch_is}
use Rattle.chain.proofs.whole.batch_from.Goals as goal

pub returns : goal.returns
returns c = batch_is c.batch.ensures refl refl
