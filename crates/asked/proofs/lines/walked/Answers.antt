-- `asked::lines::walked` meets its contract. Assumes nothing.
use native.Mathlib.Omega.{arith}
use mathlib.Core.Path.{refl}
use Rattle.records.proofs.Puts.{put_then}
use Rattle.asked.proofs.lines.walked.Goals as goal

pub returns : goal.returns
returns c = record {
  words = _;
  is = record { number = c.mt_segment_cells-number.result; out = c.mt_segment_cells-number.new.out; scratch = c.mt_segment_cells-number.new.scratch; replies = rw (← c.words.ensures, ← c.float.ensures, ← c.float-2.ensures, ← c.float-3.ensures, ← c.float-4.ensures) c.mt_segment_cells-number.ensures; words = refl };
  put = put_then c.reply-to.ensures c.written.ensures (omega (arith, c.well_formed));
}
