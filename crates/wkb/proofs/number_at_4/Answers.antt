-- `wkb::number_at_4` meets its contract: in each order the bytes are handed on the least significant first. Assumes nothing.
use native.Mathlib.Omega.{arith}
use Rattle.wkb.proofs.Words.{little_4, big_4}
use Rattle.wkb.proofs.number_at_4.Goals as goal

pub returns-in-Little : goal.returns-in-Little
returns-in-Little c =
    let a = c.args in (
      little_4 a.order a.bytes.now a.at c.in-Little.is (omega arith) c.number_of_4.ensures.0,
      c.number_of_4.ensures.1,
    )

pub returns-in-Big : goal.returns-in-Big
returns-in-Big c =
    let a = c.args in (
      big_4 a.order a.bytes.now a.at c.in-Big.is (omega arith) c.number_of_4-in-Big.ensures.0,
      c.number_of_4-in-Big.ensures.1,
    )
