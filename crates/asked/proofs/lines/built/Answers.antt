-- `asked::lines::built` meets its contract. Assumes nothing.
use native.Mathlib.Omega.{arith}
use mathlib.Core.Path.{refl}
use Rattle.records.proofs.Puts.{put_then}
use Rattle.asked.proofs.Rooms.{floats_in_lem}
use Rattle.asked.proofs.lines.built.Goals as goal

pub returns : goal.returns
returns c = record {
  words = _;
  is = record {
    number = c.mt_build-number.result;
    out = c.mt_build-number.new.out;
    offsets = c.mt_build-number.new.offsets;
    items = c.mt_build-number.new.items;
    globals = c.mt_build-number.new.globals;
    scratch = c.mt_build-number.new.scratch;
    replies = rw (← floats_in_lem c.args.q.now 5 0 c.requires.0 c.requires.1 c.floats.ensures, ← floats_in_lem c.args.q.now 5 1 c.requires.0 c.requires.1 c.floats-2.ensures, ← floats_in_lem c.args.q.now 5 2 c.requires.0 c.requires.1 c.floats-3.ensures, ← floats_in_lem c.args.q.now 5 3 c.requires.0 c.requires.1 c.floats-4.ensures, ← c.short.ensures) c.mt_build-number.ensures;
    words = refl;
  };
  put =
      put_then
      (put_then
      (put_then
      (put_then c.reply-replied.ensures c.written-offsets_to.ensures (omega (arith, c.well_formed)))
      c.written-items_to.ensures
      (omega (arith, c.well_formed)))
      c.written-globals_to.ensures
      (omega (arith, c.well_formed)))
      c.written.ensures
      (omega (arith, c.well_formed));
}
