-- `asked_points::points::strategies` meets its contract. Assumes nothing.
use Rattle.asked_points.proofs.Replied.{reply_words_lem}
use Rattle.asked_points.proofs.InOrder.{strategies_words_lem}
use Rattle.asked_points.proofs.points.strategies.Goals as goal

pub returns : goal.returns
returns c = rw (strategies_words_lem, ← c.float.ensures, ← c.float-2.ensures, ← reply_words_lem c.mt_strategies_agree-number.ensures) c.reply.ensures
