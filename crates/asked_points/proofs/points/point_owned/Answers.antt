-- `asked_points::points::point_owned` meets its contract. Assumes nothing.
use Rattle.asked_points.proofs.Replied.{reply_words_lem}
use Rattle.asked_points.proofs.InOrder.{point_owned_words_lem}
use Rattle.asked_points.proofs.points.point_owned.Goals as goal

pub returns : goal.returns
returns c = rw (point_owned_words_lem, ← c.words.ensures, ← c.short.ensures, ← c.short-2.ensures, ← c.float.ensures, ← c.float-2.ensures, ← reply_words_lem c.mt_point_owned-number.ensures) c.reply.ensures
