-- `clean_bytes::put_part` meets its contract. Assumes nothing.
use mathlib.Core.Path.{sym}
use lib.Seq.{length-take-le}
use Rattle.clean_bytes.proofs.put_part.Goals as goal

pub slice_bounds-put_found-end : goal.slice_bounds-put_found-end
slice_bounds-put_found-end c =
    sym (length-take-le _ c.args.x.now c.requires.0.in_x)

pub slice_bounds-put_found-end-2 : goal.slice_bounds-put_found-end-2
slice_bounds-put_found-end-2 c =
    sym (length-take-le _ c.args.y.now c.requires.0.in_y)

pub slice_bounds-put_found-end-3 : goal.slice_bounds-put_found-end-3
slice_bounds-put_found-end-3 c =
    sym (length-take-le _ c.args.lengths.now c.requires.0.in_lengths)
