-- What the answer of `snap_point` tells whoever has checked the point already. Assumes nothing.
use Rattle.std.specs.Prelude.{Ok, Err, Result}
use mathlib.Core.Path.{◌≡◌, refl, ap, ◌∙◌}
use Prim.Native.Nat.{ℕ}
use native.Mathlib.Omega.{arith}
use lib.Ieee.{Float}
use Rattle.refusals.specs.declared.Refusal.{Refusal}
use Rattle.refusals.specs.Refusals.{Check, gives, ◌then◌, answer_by}
use Rattle.refusals.proofs.Answers.{past}
use Rattle.grid.specs.Domain.{point_check}
use Rattle.snap.specs.declared.Snapped.{Snapped}
use Rattle.snap.specs.Snap.{snap_check, snap_of, snap_answer}

-- the check of size and strategy, read off the answer
refused_so : (k : Check) (p q : Float) (r : Refusal) → answer_by {B = Result Snapped Refusal} Err (λ s. s) (k then gives (Ok (record { x = p; y = q }))) ≡ Err r → k ≡ Err r
unfolding ◌then◌ answer_by
refused_so (Ok _) p q r e = let z : ◌≡◌ {A = ℕ} 0 1 = cc in absurd (omega arith)
refused_so (Err w) p q r e = cc

fine_so : (k : Check) (p q : Float) (s : Snapped) → answer_by {B = Result Snapped Refusal} Err (λ s. s) (k then gives (Ok (record { x = p; y = q }))) ≡ Ok s → (k ≡ Ok tt) × (s.x ≡ p) × (s.y ≡ q)
unfolding ◌then◌ answer_by
fine_so (Ok _) p q s e =
    let d : s ≡ record { x = p; y = q } = cc in
    (refl, ap (λ (z : Snapped). z.x) d, ap (λ (z : Snapped). z.y) d)
fine_so (Err w) p q s e = let z : ◌≡◌ {A = ℕ} 0 1 = cc in absurd (omega arith)

module _ (x y size : Float) (strategy : ℕ) (fine : point_check x y ≡ Ok tt) where
  pub not_snapped : (r : Refusal) → snap_answer x y size strategy ≡ Err r → snap_check size strategy ≡ Err r
  unfolding snap_answer
  not_snapped r e =
      refused_so (snap_check size strategy) (snap_of size x) (snap_of size y) r (past _ _ _ _ fine ∙ e)

  pub snapped : (s : Snapped) → snap_answer x y size strategy ≡ Ok s → (snap_check size strategy ≡ Ok tt) × (s.x ≡ snap_of size x) × (s.y ≡ snap_of size y)
  unfolding snap_answer
  snapped s e =
      fine_so (snap_check size strategy) (snap_of size x) (snap_of size y) s (past _ _ _ _ fine ∙ e)
