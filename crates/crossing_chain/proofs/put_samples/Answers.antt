-- `crossing_chain::put_samples` meets its contract. Assumes nothing.
use Rattle.std.proofs.Common.{ℕ, sym, ◌∙◌}
use lib.ListN.{length-replicate}
use Rattle.report.proofs.Putting.{puts_text}
use Rattle.crossing_chain.proofs.Answers.{samples_refused, build_refused, build_made}
use Rattle.crossing_chain.proofs.put_samples.Goals as goal

pub returns-in-Err : goal.returns-in-Err
returns-in-Err c = puts_text (samples_refused _ _ _ (sym c.check_sample_lines-sampled.ensures ∙ c.in-Err.is)) c.refused_line.ensures

pub returns-in-Err-built : goal.returns-in-Err-built
returns-in-Err-built c =
    puts_text
    (build_refused _ _ (length-replicate {A = ℕ} 4096 0) (length-replicate {A = ℕ} 4096 0) (length-replicate {A = ℕ} 64 0) (length-replicate {A = ℕ} 16384 0) _ (sym c.check_sample_lines-sampled.ensures ∙ c.in_default.is) c.build-built.ensures c.in-Err-built.is)
    c.refused_line-in-Err-built.ensures

pub returns-in-Ok : goal.returns-in-Ok
returns-in-Ok c =
    puts_text
    (build_made _ _ (length-replicate {A = ℕ} 4096 0) (length-replicate {A = ℕ} 4096 0) (length-replicate {A = ℕ} 64 0) (length-replicate {A = ℕ} 16384 0) _ (sym c.check_sample_lines-sampled.ensures ∙ c.in_default.is) c.build-built.ensures c.in-Ok.is)
    c.put_tables.ensures
