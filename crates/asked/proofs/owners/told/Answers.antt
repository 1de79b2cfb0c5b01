-- `asked::owners::told` meets its contract. Assumes nothing.
use native.Mathlib.Omega.{arith}
use mathlib.Core.Path.{refl}
use Rattle.records.proofs.Puts.{put_then}
use Rattle.asked.proofs.Rooms.{floats_in_lem}
use Rattle.asked.proofs.owners.told.Goals as goal

pub returns : goal.returns
returns c = record {
  words = _;
  is = record { number = c.mt_owners-number.result; out = c.mt_owners-number.new.out; owners = c.mt_owners-number.new.answers; replies = rw (← c.words.ensures, ← floats_in_lem c.args.q.now 1 1 c.requires.0 c.requires.1 c.floats.ensures, ← floats_in_lem c.args.q.now 1 2 c.requires.0 c.requires.1 c.floats-2.ensures) c.mt_owners-number.ensures; words = refl };
  put = put_then c.reply-to.ensures c.written.ensures (omega (arith, c.well_formed));
}
