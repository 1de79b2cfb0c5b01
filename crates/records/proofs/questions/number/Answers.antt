-- `records::questions::number` meets its contract. Assumes nothing.
use native.Mathlib.Omega.{arith}
use Rattle.records.proofs.Parts.{number_beyond}
use Rattle.records.proofs.questions.number.Goals as goal

pub returns : goal.returns
returns c = number_beyond c.args.q.now c.args.at (omega arith)
