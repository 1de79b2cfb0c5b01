-- `asked::visits::tested` meets its contract. Assumes nothing.
use Rattle.asked_points.proofs.Replied.{reply_words_lem}
use Rattle.asked.proofs.Rooms.{floats_in_lem, shorts_in_lem}
use Rattle.asked.proofs.Lending.{test_words_lem}
use Rattle.asked.proofs.visits.tested.Goals as goal

pub returns : goal.returns
returns c = rw (test_words_lem, ← c.words.ensures, ← floats_in_lem c.args.q.now 2 1 c.requires.0 c.requires.1 c.floats.ensures, ← floats_in_lem c.args.q.now 2 2 c.requires.0 c.requires.1 c.floats-2.ensures, ← floats_in_lem c.args.q.now 2 3 c.requires.0 c.requires.1 c.floats-3.ensures, ← floats_in_lem c.args.q.now 2 4 c.requires.0 c.requires.1 c.floats-4.ensures, ← shorts_in_lem c.args.q.now 2 5 c.requires.0 c.requires.2 c.shorts.ensures, ← shorts_in_lem c.args.q.now 2 6 c.requires.0 c.requires.2 c.shorts-2.ensures, ← shorts_in_lem c.args.q.now 2 7 c.requires.0 c.requires.2 c.shorts-3.ensures, ← c.number.ensures, ← c.number-2.ensures, ← reply_words_lem c.mt_test_at-number.ensures) c.reply.ensures
