-- `wkb::number_at_8` meets its contract: in each order the low half is added to the high one. Assumes nothing.
use native.Mathlib.Omega.{arith}
use Rattle.wkb.proofs.Words.{little_8, big_8}
use Rattle.wkb.proofs.number_at_8.Goals as goal

pub returns-in-Little : goal.returns-in-Little
returns-in-Little c =
    let a = c.args in
    little_8 a.order a.bytes.now a.at (omega arith) c.in-Little.is c.number_at_4-first.ensures.0 c.number_at_4-second.ensures.0

pub returns-in-Big : goal.returns-in-Big
returns-in-Big c =
    let a = c.args in
    big_8 a.order a.bytes.now a.at (omega arith) c.in-Big.is c.number_at_4-first.ensures.0 c.number_at_4-second.ensures.0
