-- `listed::settle::later` meets its contract. Assumes nothing.
use Rattle.listed.proofs.ListLaws.{later_is, later_next}
use Rattle.listed.proofs.settle.later.Goals as goal

pub returns-then-i-j : goal.returns-then-i-j
returns-then-i-j c = later_is _ _ c.if-i-j.true

pub returns : goal.returns
returns c = later_next _ _ c.if-i-j.false
