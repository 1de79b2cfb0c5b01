-- `asked_points::points::owner` meets its contract. Assumes nothing.
use Rattle.asked_points.proofs.Replied.{reply_words_lem}
use Rattle.asked_points.proofs.InOrder.{owner_words_lem}
use Rattle.asked_points.proofs.points.owner.Goals as goal

pub returns : goal.returns
returns c = rw (owner_words_lem, ← c.words.ensures, ← c.float.ensures, ← c.float-2.ensures, ← reply_words_lem c.mt_owner-number.ensures) c.reply.ensures
