-- `chain_clean::respond` is safe and ends. Assumes nothing.
use mathlib.Core.Path.{sym}
use lib.Seq.{length-take-le}
use Rattle.clean_bytes.proofs.Fitting.{bytes_within, text_within}
use Rattle.chain_clean.proofs.respond.Goals as goal

pub slice_bounds-file-end : goal.slice_bounds-file-end
slice_bounds-file-end c = bytes_within c.clean_bytes-ends.ensures

pub slice_bounds-deliver-end : goal.slice_bounds-deliver-end
slice_bounds-deliver-end c = sym (length-take-le _ _ (bytes_within c.clean_bytes-ends.ensures))

pub slice_bounds-text-end : goal.slice_bounds-text-end
slice_bounds-text-end c = text_within c.clean_bytes-ends.ensures

pub slice_bounds-deliver-end-2 : goal.slice_bounds-deliver-end-2
slice_bounds-deliver-end-2 c = sym (length-take-le _ _ (text_within c.clean_bytes-ends.ensures))
