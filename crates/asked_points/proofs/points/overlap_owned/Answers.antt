-- `asked_points::points::overlap_owned` meets its contract. Assumes nothing.
use Rattle.asked_points.proofs.Replied.{reply_words_lem}
use Rattle.asked_points.proofs.InOrder.{overlap_owned_words_lem}
use Rattle.asked_points.proofs.points.overlap_owned.Goals as goal

pub returns : goal.returns
returns c = rw (overlap_owned_words_lem, ← c.words.ensures, ← c.short.ensures, ← c.short-2.ensures, ← c.float.ensures, ← c.float-2.ensures, ← c.float-3.ensures, ← c.short-3.ensures, ← reply_words_lem c.mt_overlap_owned-number.ensures) c.reply.ensures
