-- `capi::ownership::mt_owner` meets its contract: an `out` that is short, words that are too few, or the entry's answer handed over. Assumes nothing.
use mathlib.Core.Path.{ap}
use Rattle.replies.specs.Answers.{of_owner_answer}
use Rattle.replies.proofs.Handing.{short_replies}
use Rattle.capi.proofs.Handing.{few_replies, asked}
use Rattle.capi.proofs.ownership.mt_owner.Goals as goal

pub returns-then-out-lt3 : goal.returns-then-out-lt3
returns-then-out-lt3 c = short_replies 3 _ _ c.if-out-lt3.true

pub returns-then-grid-lt-WORDS : goal.returns-then-grid-lt-WORDS
returns-then-grid-lt-WORDS c = few_replies 3 _ _ _ c.if-out-lt3.false c.if-grid-lt-WORDS.true

pub returns : goal.returns
returns c =
    rw (← c.grid_by.ensures)
    (asked 3 _ c.if-grid-lt-WORDS.false (ap of_owner_answer c.owner_of.ensures) c.owner.ensures)
