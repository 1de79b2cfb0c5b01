-- `clean::points::piece_end` meets its contract. The invariant: the points up to i obey the rule. Assumes nothing.
use mathlib.Core.Path.{sym, ◌∙◌}
use native.Mathlib.Omega.{arith}
use Rattle.clean.proofs.Parts.{ending_none, ending_more, ending_bad, ending_all}
use Rattle.clean.proofs.points.piece_end.Goals as goal

pub loop-i-init : goal.loop-i-init
loop-i-init c = ending_none c.requires

pub is_good-requires : goal.is_good-requires
is_good-requires c = let p = c.loop-i.invariant.lies in (omega arith, omega arith)

pub loop-i-preserved : goal.loop-i-preserved
loop-i-preserved c = ending_more c.loop-i.invariant c.loop-i-test.true (sym c.is_good.ensures ∙ c.if-not-is_good.false)

pub returns-then-not-is_good : goal.returns-then-not-is_good
returns-then-not-is_good c = ending_bad c.loop-i.invariant (sym c.is_good.ensures ∙ c.if-not-is_good.true)

pub returns : goal.returns
returns c = ending_all c.loop-i.invariant c.loop-i-test.false
