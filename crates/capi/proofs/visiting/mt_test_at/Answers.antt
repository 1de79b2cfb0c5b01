-- `capi::visiting::mt_test_at` meets its contract: an `out` that is short, words that are too few, or the entry's answer handed over. Assumes nothing.
use mathlib.Core.Path.{ap}
use Rattle.replies.specs.Answers.{of_test}
use Rattle.replies.proofs.Handing.{short_replies}
use Rattle.capi.proofs.Handing.{few_replies, asked}
use Rattle.capi.proofs.visiting.mt_test_at.Goals as goal

pub returns-then-out-lt6 : goal.returns-then-out-lt6
returns-then-out-lt6 c = short_replies 6 _ _ c.if-out-lt6.true

pub returns-then-grid-lt-WORDS : goal.returns-then-grid-lt-WORDS
returns-then-grid-lt-WORDS c = few_replies 6 _ _ _ c.if-out-lt6.false c.if-grid-lt-WORDS.true

pub returns : goal.returns
returns c =
    rw (← c.grid_by.ensures)
    (asked 6 _ c.if-grid-lt-WORDS.false (ap of_test c.test_at.ensures) c.test.ensures)
