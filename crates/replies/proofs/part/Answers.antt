-- `replies::part` meets its contract: each case of the check is handed over. Assumes nothing.
use Rattle.std.specs.Prelude.{Ok}
use Rattle.refusals.specs.Refusals.{Check}
use Prim.Native.Nat.{ℕ, ◌+◌, ◌-◌}
use mathlib.Core.Path.{◌≡◌, sym, ap, ◌∙◌}
use mathlib.Core.List.{[], ◌∷◌}
use native.Mathlib.Omega.{arith}
use Rattle.replies.specs.Replies.{success}
use Rattle.replies.specs.Answers.{of_part}
use Rattle.replies.proofs.Handing.{short_replies, handed}
use Rattle.replies.proofs.part.Goals as goal

given : (from len : ℕ) → success (from ∷ len ∷ []) ≡ of_part (Ok tt) from (from + len)
unfolding of_part
given from len = let e : from + len - from ≡ len = omega arith in rw e

pub returns-then-out-lt2 : goal.returns-then-out-lt2
returns-then-out-lt2 c = short_replies 2 _ _ c.if-out-lt2.true

pub returns-in-Ok : goal.returns-in-Ok
returns-in-Ok c =
    let a = c.args in
    handed 2 c.if-out-lt2.false (given a.from a.len ∙ ap (λ (k : Check). of_part k a.from (a.from + a.len)) (sym c.in-Ok.is)) c.two.ensures

pub returns-in-Err : goal.returns-in-Err
unfolding of_part
returns-in-Err c =
    let a = c.args in
    handed 2 c.if-out-lt2.false (ap (λ (k : Check). of_part k a.from (a.from + a.len)) (sym c.in-Err.is)) c.refused.ensures
