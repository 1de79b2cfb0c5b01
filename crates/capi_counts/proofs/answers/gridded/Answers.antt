-- `capi_counts::answers::gridded` meets its contract. Assumes nothing.
use mathlib.Core.Path.{refl}
use native.Mathlib.Omega.{arith}
use lib.ListN.{length-set}
use Rattle.replies.proofs.Handing.{stored_six, handed_replies}
use Rattle.capi_counts.specs.Answers.{of_grid}
use Rattle.capi_counts.proofs.answers.gridded.Goals as goal

pub bounds-out-1 : goal.bounds-out-1
bounds-out-1 c = simp length-set (omega arith)

pub bounds-out-2 : goal.bounds-out-2
bounds-out-2 c = simp length-set (omega arith)

pub bounds-out-3 : goal.bounds-out-3
bounds-out-3 c = simp length-set (omega arith)

pub bounds-out-4 : goal.bounds-out-4
bounds-out-4 c = simp length-set (omega arith)

pub bounds-out-5 : goal.bounds-out-5
bounds-out-5 c = simp length-set (omega arith)

pub returns : goal.returns
unfolding of_grid
returns c =
    let a = c.args in
    let h = c.requires in
    rw (c.to_bits.ensures, c.to_bits-2.ensures, c.to_bits-3.ensures, c.to_bits-4.ensures)
    (handed_replies 6 h (record { number = refl; words = stored_six a.out.now _ _ _ _ _ _ h }))
