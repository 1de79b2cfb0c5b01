-- `records::words::four` meets its contract. Assumes nothing.
use native.Mathlib.Omega.{arith}
use Rattle.records.proofs.Bytes.{little_four}
use Rattle.records.proofs.words.four.Goals as goal

pub returns : goal.returns
returns c = let a = c.args in let e = little_four a.at a.bytes.now in omega (arith, e)
