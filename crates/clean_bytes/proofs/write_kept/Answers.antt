-- `clean_bytes::write_kept` meets its contract. Assumes nothing.
use mathlib.Core.Path.{sym}
use lib.Seq.{length-take-le}
use Rattle.clean_bytes.proofs.Keeping.{wrote, not_refused}
use Rattle.clean_bytes.proofs.write_kept.Goals as goal

pub slice_bounds-write_multi_line_string-end : goal.slice_bounds-write_multi_line_string-end
slice_bounds-write_multi_line_string-end c =
    sym (length-take-le _ c.args.x.now c.requires.0.in_x)

pub slice_bounds-write_multi_line_string-end-2 : goal.slice_bounds-write_multi_line_string-end-2
slice_bounds-write_multi_line_string-end-2 c =
    sym (length-take-le _ c.args.y.now c.requires.0.in_y)

pub slice_bounds-write_multi_line_string-end-3 : goal.slice_bounds-write_multi_line_string-end-3
slice_bounds-write_multi_line_string-end-3 c =
    sym (length-take-le _ c.args.lengths.now c.requires.0.in_lengths)

pub returns-in-Ok : goal.returns-in-Ok
returns-in-Ok c = wrote c.write_multi_line_string-written.ensures c.requires.1 c.in-Ok.is

pub returns-in-Err : goal.returns-in-Err
returns-in-Err c = not_refused c.write_multi_line_string-written.ensures c.requires.1 c.in-Err.is
