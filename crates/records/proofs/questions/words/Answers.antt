-- `records::questions::words` meets its contract. Assumes nothing.
use native.Mathlib.Omega.{arith}
use Rattle.records.proofs.Parts.{words_some, words_none}
use Rattle.records.proofs.questions.words.Goals as goal

pub returns-then-at-to : goal.returns-then-at-to
returns-then-at-to c = words_some _ _ _ _ _ c.place-at.ensures c.end-to.ensures.0

pub returns : goal.returns
returns c = words_none _ _ _ _ _ c.place-at.ensures c.end-to.ensures.0 (omega arith)
