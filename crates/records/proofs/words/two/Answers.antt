-- `records::words::two` meets its contract. Assumes nothing.
use native.Mathlib.Omega.{arith}
use Rattle.records.proofs.Bytes.{little_two}
use Rattle.records.proofs.words.two.Goals as goal

pub returns : goal.returns
returns c = let a = c.args in let e = little_two a.at a.bytes.now in omega (arith, e)
