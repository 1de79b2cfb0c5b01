-- `asked::visits::batched` meets its contract. Assumes nothing.
use native.Mathlib.Omega.{arith}
use mathlib.Core.Path.{refl}
use Rattle.records.proofs.Puts.{put_then}
use Rattle.asked.proofs.Rooms.{floats_in_lem, shorts_in_lem}
use Rattle.asked.proofs.Lending.{batch_read}
use Rattle.asked.proofs.visits.batched.Goals as goal

pub returns : goal.returns
returns c = record {
  words = _;
  is = batch_read c.args.q.now _ _ _ (record {
    number = c.mt_batch-number.result;
    out = c.mt_batch-number.new.out;
    first = c.mt_batch-number.new.first;
    second = c.mt_batch-number.new.second;
    replies = rw (← c.words.ensures, ← floats_in_lem c.args.q.now 4 1 c.requires.0 c.requires.1 c.floats.ensures, ← floats_in_lem c.args.q.now 4 2 c.requires.0 c.requires.1 c.floats-2.ensures, ← floats_in_lem c.args.q.now 4 3 c.requires.0 c.requires.1 c.floats-3.ensures, ← floats_in_lem c.args.q.now 4 4 c.requires.0 c.requires.1 c.floats-4.ensures, ← shorts_in_lem c.args.q.now 4 5 c.requires.0 c.requires.2 c.shorts.ensures, ← shorts_in_lem c.args.q.now 4 6 c.requires.0 c.requires.2 c.shorts-2.ensures, ← shorts_in_lem c.args.q.now 4 7 c.requires.0 c.requires.2 c.shorts-3.ensures, ← c.number.ensures, ← c.number-2.ensures) c.mt_batch-number.ensures;
    words = refl;
  });
  put = put_then (put_then c.reply-replied.ensures c.written-first_to.ensures (omega (arith, c.well_formed))) c.written.ensures (omega (arith, c.well_formed));
}
