-- `short_lists::keeps` meets its contract. Assumes nothing.
use mathlib.Core.Path.{sym, ◌∙◌}
use Rattle.short_lists.proofs.Tries.{decide_met, decide_first, decide_far, decide_marked}
use Rattle.short_lists.proofs.keeps.Goals as goal

pub returns-then-met_before : goal.returns-then-met_before
returns-then-met_before c = decide_met _ _ _ _ _ _ _ c.if-common-eq1.true c.if-near.true (sym c.met_before.ensures ∙ c.if-met_before.true)

pub returns-then-near : goal.returns-then-near
returns-then-near c = decide_first _ _ _ _ _ _ _ c.if-common-eq1.true c.if-near.true (sym c.met_before.ensures ∙ c.if-met_before.false)

pub returns-then-common-eq1 : goal.returns-then-common-eq1
returns-then-common-eq1 c = decide_far _ _ _ _ _ _ _ c.if-common-eq1.true c.if-near.false

pub returns : goal.returns
returns c = decide_marked _ _ _ _ _ _ _ c.if-common-eq1.false
