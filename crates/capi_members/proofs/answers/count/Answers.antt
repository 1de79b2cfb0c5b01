-- `capi_members::answers::count` meets its contract. Assumes nothing.
use mathlib.Core.Path.{refl}
use Rattle.replies.proofs.Handing.{stored_one, handed_replies}
use Rattle.capi_members.proofs.answers.count.Goals as goal

pub returns : goal.returns
returns c =
    let a = c.args in
    let h = c.requires in
    handed_replies 1 h (record { number = refl; words = stored_one a.out.now a.n h })
