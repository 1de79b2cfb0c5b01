-- `asked_points::points::snap` meets its contract. Assumes nothing.
use Rattle.asked_points.proofs.Replied.{reply_words_lem}
use Rattle.asked_points.proofs.InOrder.{snap_words_lem}
use Rattle.asked_points.proofs.points.snap.Goals as goal

pub returns : goal.returns
returns c = rw (snap_words_lem, ← c.float.ensures, ← c.float-2.ensures, ← c.float-3.ensures, ← c.short.ensures, ← reply_words_lem c.mt_snap-number.ensures) c.reply.ensures
