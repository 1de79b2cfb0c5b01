-- `capi_pairs::costing::mt_visit_cost` meets its contract. Assumes nothing.
use mathlib.Core.Path.{ap}
use Rattle.replies.proofs.Handing.{short_replies, handed_replies}
use Rattle.capi.proofs.Handing.{few_replies, asked}
use Rattle.capi_pairs.specs.Answers.{of_cost}
use Rattle.capi_pairs.proofs.costing.mt_visit_cost.Goals as goal

pub returns-then-out-lt2 : goal.returns-then-out-lt2
returns-then-out-lt2 c = short_replies 2 _ _ c.if-out-lt2.true

pub returns-then-grid-lt-WORDS : goal.returns-then-grid-lt-WORDS
returns-then-grid-lt-WORDS c = few_replies 2 _ _ _ c.if-out-lt2.false c.if-grid-lt-WORDS.true

pub returns : goal.returns
returns c =
    rw (← c.grid_by.ensures)
    (asked 2 _ c.if-grid-lt-WORDS.false (ap of_cost c.cost_of.ensures) (handed_replies 2 c.if-out-lt2.false c.cost.ensures))
