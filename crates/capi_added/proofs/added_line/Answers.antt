-- `capi_added::added_line` meets its contract: each case of the answer is handed over. Assumes nothing.
use mathlib.Core.Path.{refl, sym, ap}
use native.Mathlib.Omega.{arith}
use lib.ListN.{length-set}
use Rattle.replies.proofs.Handing.{stored_one, stored_three, handed_replies, replied}
use Rattle.capi_added.specs.Lent.{of_added}
use Rattle.capi_added.proofs.added_line.Goals as goal

pub bounds-out-1 : goal.bounds-out-1
bounds-out-1 c = simp length-set (omega arith)

pub returns-in-Ok : goal.returns-in-Ok
unfolding of_added
returns-in-Ok c =
    let h = c.requires in
    replied 3 (ap of_added (sym c.in-Ok.is))
    (handed_replies 3 h (record { number = refl; words = stored_three c.args.out.now c.in-Ok.field-0.items c.in-Ok.field-0.globals c.in-Ok.field-0.cells h }))

pub returns-in-Err : goal.returns-in-Err
unfolding of_added
returns-in-Err c =
    let h = c.requires in
    replied 3 (ap of_added (sym c.in-Err.is))
    (handed_replies 3 h (record { number = refl; words = stored_one c.args.out.now _ (omega arith) }))
