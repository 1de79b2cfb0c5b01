use Prim.Native.Nat.{ℕ}
use lib.ListN.{length-replicate}
use Rattle.why.specs.Why.{nothing}
use Rattle.why.proofs.Cases.{build_refused, build_made}
use Rattle.why.proofs.of_lines.Goals as goal

pub returns-in-Err : goal.returns-in-Err
returns-in-Err c = build_refused _ _ (length-replicate {A = ℕ} 4096 0) (length-replicate {A = ℕ} 4096 0) (length-replicate {A = ℕ} 64 0) (length-replicate {A = ℕ} 16384 0) c.build-built.ensures c.in-Err.is

pub returns-in-Ok : goal.returns-in-Ok
unfolding nothing
returns-in-Ok c = build_made _ _ (length-replicate {A = ℕ} 4096 0) (length-replicate {A = ℕ} 4096 0) (length-replicate {A = ℕ} 64 0) (length-replicate {A = ℕ} 16384 0) c.build-built.ensures c.in-Ok.is
