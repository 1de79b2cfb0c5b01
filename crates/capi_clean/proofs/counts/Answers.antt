-- `capi_clean::counts` meets its contract. Assumes nothing.
use mathlib.Core.Path.{refl}
use Rattle.replies.proofs.Handing.{stored_two, handed_replies}
use Rattle.capi_clean.proofs.counts.Goals as goal

pub returns : goal.returns
returns c =
    let a = c.args in
    let h = c.requires in
    handed_replies 2 h (record { number = refl; words = stored_two a.out.now a.points a.members h })
