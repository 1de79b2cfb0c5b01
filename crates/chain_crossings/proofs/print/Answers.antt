-- `chain_crossings::print` is safe and ends. Assumes nothing.
use native.Mathlib.Omega.{arith}
use lib.ListN.{length-take}
use Rattle.report.proofs.Written.{prints_within}
use Rattle.chain_crossings.proofs.print.Goals as goal

pub slice_bounds-out-end : goal.slice_bounds-out-end
slice_bounds-out-end g c =
    let e = prints_within c.print_crossings-end.ensures in
    let l = length-take c.print_crossings-end.result c.print_crossings-end.new.out in
    omega arith

pub slice_bounds-write_all-end : goal.slice_bounds-write_all-end
slice_bounds-write_all-end g c = prints_within c.print_crossings-end.ensures
