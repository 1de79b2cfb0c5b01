-- `clean_bytes::put_first` meets its contract. Assumes nothing.
use mathlib.Core.Path.{sym}
use native.Mathlib.Omega.{arith}
use lib.Seq.{length-take-le}
use Rattle.clean_bytes.proofs.put_first.Goals as goal

pub slice_bounds-put_multi-end : goal.slice_bounds-put_multi-end
slice_bounds-put_multi-end c =
    sym (length-take-le _ c.args.s.now c.requires.0)

pub put_multi-requires : goal.put_multi-requires
put_multi-requires c =
    let e = length-take-le c.args.n c.args.s.now c.requires.0 in
    let m = c.requires.1 in
    (omega arith, c.requires.2)
