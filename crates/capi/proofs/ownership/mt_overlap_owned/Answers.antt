-- `capi::ownership::mt_overlap_owned` meets its contract: an `out` that is short, words that are too few, or the entry's answer handed over. Assumes nothing.
use mathlib.Core.Path.{ap}
use Rattle.replies.specs.Answers.{of_owned}
use Rattle.replies.proofs.Handing.{short_replies}
use Rattle.capi.proofs.Handing.{few_replies, asked}
use Rattle.capi.proofs.ownership.mt_overlap_owned.Goals as goal

pub returns-then-out-lt1 : goal.returns-then-out-lt1
returns-then-out-lt1 c = short_replies 1 _ _ c.if-out-lt1.true

pub returns-then-grid-lt-WORDS : goal.returns-then-grid-lt-WORDS
returns-then-grid-lt-WORDS c = few_replies 1 _ _ _ c.if-out-lt1.false c.if-grid-lt-WORDS.true

pub returns : goal.returns
returns c =
    rw (← c.grid_by.ensures)
    (asked 1 _ c.if-grid-lt-WORDS.false (ap of_owned c.overlap_owned.ensures) c.owned.ensures)
