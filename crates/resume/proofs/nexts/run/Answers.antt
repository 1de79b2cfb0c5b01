-- `resume::nexts::run` meets its contract. Assumes nothing.
use Rattle.resume.proofs.NextLaws.{run_globals, run_small, run_is}
use Rattle.resume.proofs.nexts.run.Goals as goal

pub run_globals-last-requires : goal.run_globals-last-requires
run_globals-last-requires c = run_globals _ _ _ _ _ _ _ _ _ c.requires _ _ _ c.run-ran.ensures _ _ _ _ c.position.ensures c.least-p.ensures c.line_at-k.ensures c.passed-q.ensures

pub overflow_add-result : goal.overflow_add-result
overflow_add-result c = record { fits = run_small _ _ _ _ _ _ _ _ _ c.requires _ _ _ c.run-ran.ensures _ _ _ _ c.position.ensures c.least-p.ensures c.line_at-k.ensures c.passed-q.ensures _ _ _ c.run_globals-last.ensures }

pub returns : goal.returns
returns c = run_is _ _ _ _ _ _ _ _ _ c.requires _ _ _ c.run-ran.ensures _ _ _ _ c.position.ensures c.least-p.ensures c.line_at-k.ensures c.passed-q.ensures _ _ _ c.run_globals-last.ensures
