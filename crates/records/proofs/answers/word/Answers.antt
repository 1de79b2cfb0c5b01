-- `records::answers::word` meets its contract. Assumes nothing.
use native.Mathlib.Omega.{arith}
use Rattle.records.proofs.Puts.{put_beyond}
use Rattle.records.proofs.answers.word.Goals as goal

pub returns-then-at-eq-MOST : goal.returns-then-at-eq-MOST
returns-then-at-eq-MOST c = put_beyond _ _ _ _ (omega arith) (omega arith)

pub returns : goal.returns
returns c = put_beyond _ _ _ _ (omega arith) (omega arith)
