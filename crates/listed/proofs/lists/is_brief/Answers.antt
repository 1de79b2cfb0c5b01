-- `listed::lists::is_brief` meets its contract. Assumes nothing.
use native.Mathlib.Omega.{arith}
use Rattle.listed.proofs.ListLaws.{square_few, brief_late, brief_later, brief_long, brief_is}
use Rattle.listed.proofs.lists.is_brief.Goals as goal

pub returns-then-i-ne0 : goal.returns-then-i-ne0
returns-then-i-ne0 c = brief_late _ _ _ _ c.if-i-ne0.true

pub returns-then-j-ne1 : goal.returns-then-j-ne1
returns-then-j-ne1 c = brief_later _ _ _ _ c.if-i-ne0.false c.if-j-ne1.true

pub returns-then-len-gt32 : goal.returns-then-len-gt32
returns-then-len-gt32 c = brief_long _ _ _ _ c.if-i-ne0.false c.if-j-ne1.false c.if-len-gt32.true

pub overflow_mul-result : goal.overflow_mul-result
overflow_mul-result c = let n = c.args.len in omega (arith, square_few n (omega arith))

pub returns : goal.returns
returns c = brief_is _ _ _ _ c.if-i-ne0.false c.if-j-ne1.false c.if-len-gt32.false
