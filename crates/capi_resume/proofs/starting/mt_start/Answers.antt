-- `capi_resume::starting::mt_start` meets its contract. Assumes nothing.
use mathlib.Core.Path.{ap}
use Rattle.replies.proofs.Handing.{short_replies, handed_replies}
use Rattle.capi.proofs.Handing.{few_replies, asked}
use Rattle.capi_resume.specs.Answers.{of_start}
use Rattle.capi_resume.proofs.starting.mt_start.Goals as goal

pub returns-then-out-lt3 : goal.returns-then-out-lt3
returns-then-out-lt3 c = short_replies 3 _ _ c.if-out-lt3.true

pub returns-then-grid-lt-WORDS : goal.returns-then-grid-lt-WORDS
returns-then-grid-lt-WORDS c = few_replies 3 _ _ _ c.if-out-lt3.false c.if-grid-lt-WORDS.true

pub returns : goal.returns
returns c =
    rw (← c.grid_by.ensures)
    (asked 3 _ c.if-grid-lt-WORDS.false (ap of_start c.start.ensures) (handed_replies 3 c.if-out-lt3.false c.started.ensures))
