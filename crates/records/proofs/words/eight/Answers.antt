-- `records::words::eight` meets its contract. Assumes nothing.
use native.Mathlib.Omega.{arith}
use Rattle.records.proofs.Bytes.{little_eight}
use Rattle.records.proofs.words.eight.Goals as goal

pub returns : goal.returns
returns c = let a = c.args in let e = little_eight a.at a.bytes.now in omega (arith, e)
