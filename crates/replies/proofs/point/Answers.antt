-- `replies::point` meets its contract: each case of the answer is handed over. Assumes nothing.
use mathlib.Core.Path.{sym, ap, ap₂, ◌∙◌}
use Rattle.replies.specs.Answers.{of_snap}
use mathlib.Core.List.{[], ◌∷◌}
use Prim.Native.Nat.{ℕ}
use Rattle.replies.specs.Replies.{success}
use Rattle.replies.proofs.Handing.{answered}
use Rattle.replies.proofs.point.Goals as goal

pub returns-in-Ok : goal.returns-in-Ok
unfolding of_snap
returns-in-Ok c = answered (ap₂ (λ (p q : ℕ). success (p ∷ q ∷ [])) c.to_bits.ensures c.to_bits-in-Ok.ensures ∙ ap of_snap (sym c.in-Ok.is)) c.two.ensures

pub returns-in-Err : goal.returns-in-Err
unfolding of_snap
returns-in-Err c = answered (ap of_snap (sym c.in-Err.is)) c.refused.ensures
