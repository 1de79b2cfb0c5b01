-- `records::questions::shorts` meets its contract. Assumes nothing.
use native.Mathlib.Omega.{arith}
use Rattle.records.proofs.Parts.{beside_some, beside_none}
use Rattle.records.proofs.questions.shorts.Goals as goal

pub returns-then-at-to : goal.returns-then-at-to
returns-then-at-to c = beside_some _ _ _ _ _ _ _ c.place-at.ensures c.end.ensures.0 c.least-to.ensures

pub returns : goal.returns
returns c = beside_none _ _ _ _ _ _ _ c.place-at.ensures c.end.ensures.0 c.least-to.ensures (omega arith)
