-- `chain::put_lines` meets its contract. Assumes nothing.
use Prim.Native.Nat.{ℕ}
use lib.ListN.{length-replicate}
use Rattle.report.proofs.Putting.{puts_text}
use Rattle.chain.proofs.Answers.{lines_refused, lines_made}
use Rattle.chain.proofs.put_lines.Goals as goal

pub returns-in-Err : goal.returns-in-Err
returns-in-Err c =
    puts_text
    (lines_refused _ _ (length-replicate {A = ℕ} 4096 0) (length-replicate {A = ℕ} 4096 0) (length-replicate {A = ℕ} 64 0) (length-replicate {A = ℕ} 16384 0) c.build-built.ensures c.in-Err.is)
    c.refused_line.ensures

pub returns-in-Ok : goal.returns-in-Ok
returns-in-Ok c =
    puts_text
    (lines_made _ _ (length-replicate {A = ℕ} 4096 0) (length-replicate {A = ℕ} 4096 0) (length-replicate {A = ℕ} 64 0) (length-replicate {A = ℕ} 16384 0) c.build-built.ensures c.in-Ok.is)
    c.put_tables.ensures
