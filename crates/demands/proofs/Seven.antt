-- REFUSAL 7 CANNOT COME in the covering mode: its walks are not refused, so no build in it is refused with 7, straight from what `build::build` ensures.
-- Assumes nothing.
use Rattle.std.specs.Prelude.{Ok, Err, Result}
use Rattle.refusals.specs.declared.Refusal.{Refusal}
use Rattle.build.specs.declared.Standing.{Standing}
use mathlib.Core.Path.{◌≡◌, ap}
use mathlib.Core.List.{List}
use Prim.Native.Nat.{ℕ}
use lib.ListN.{length}
use Rattle.refusals.specs.Refusals.{refusal}
use Rattle.refusals.proofs.Checks.{each_fine}
use Rattle.grid.specs.declared.Grid.{Grid}
use Rattle.grid.specs.Domain.{Lines, count, segment_at}
use Rattle.walk.specs.declared.Mode.TheVariants.{Covering}
use Rattle.walk.proofs.Reaching.{covering_given}
use Rattle.fill.specs.OnGrid.{walk_on, completes}
use Rattle.fill.specs.Checks.{turns_check}
use Rattle.build.specs.declared.Plan.{Plan}
use Rattle.build.specs.Build.{end_of, BuildIs}
use Rattle.straight.proofs.Builds.{not_7_by}

-- every walk of the covering mode ends
turns_fine : (g : Grid) (ls : Lines) → turns_check Covering g ls ≡ Ok tt
unfolding turns_check walk_on
turns_fine g ls = each_fine (λ i. completes (walk_on Covering g ls i)) 7 (count ls) 0 (λ k l m. ap completes (covering_given g (segment_at ls k)))

pub never_7 : (plan : Plan) → plan.mode ≡ Covering → {ls : Lines} {o t gs s : List ℕ} {r : (Result Standing Refusal)} {o' t' gs' s' : List ℕ}
    → BuildIs plan.mode ls o t gs s r o' t' gs' s' (end_of plan ls (length o) (length t) (length gs) (length s)) → (value : ℕ) → r ≡ Err (refusal 7 value) → ⊥
never_7 plan covering {ls} h value e = not_7_by plan (λ f N size ok. rw covering (turns_fine _ ls)) h value e
