-- `listed::settle::row_at` meets its contract. Assumes nothing.
use Rattle.listed.proofs.ListLaws.{is_past, is_here, is_done, is_next}
use Rattle.listed.proofs.settle.row_at.Goals as goal

pub returns-then-len-i : goal.returns-then-len-i
returns-then-len-i c = is_past _ _ _ c.if-len-i.true

pub returns-then-at-len : goal.returns-then-at-len
returns-then-at-len c = is_here _ _ _ _ c.later-at.ensures c.if-at-len.true

pub returns-then-len-i-le2 : goal.returns-then-len-i-le2
returns-then-len-i-le2 c = is_done _ _ _ _ c.later-at.ensures c.if-at-len.false c.if-len-i-le2.true

pub returns : goal.returns
returns c = is_next _ _ _ _ c.later-at.ensures c.if-at-len.false c.if-len-i-le2.false
