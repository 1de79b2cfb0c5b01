-- `asked_points::numbers_of::number` meets its contract. Assumes nothing.
use native.Mathlib.Omega.{arith}
use borrow.Author.Tests.{lt-leb, le-leb}
use Rattle.records.proofs.Puts.{put_none}
use Rattle.asked_points.proofs.InOrder.{number_words_lem}
use Rattle.asked_points.proofs.numbers_of.number.Goals as goal

pub returns-then-function-lt1 : goal.returns-then-function-lt1
returns-then-function-lt1 c = rw (number_words_lem, ← c.number-function.ensures, lt-leb _ _ c.if-function-lt1.true) (put_none _ _ (omega arith))

pub returns-then-function-gt8 : goal.returns-then-function-gt8
returns-then-function-gt8 c = rw (number_words_lem, ← c.number-function.ensures, le-leb _ _ c.if-function-lt1.false, lt-leb _ _ c.if-function-gt8.true) (put_none _ _ (omega arith))

pub returns : goal.returns
returns c =
    rw (number_words_lem, ← c.number-function.ensures, le-leb _ _ c.if-function-lt1.false, le-leb _ _ c.if-function-gt8.false, ← c.float.ensures, ← c.number.ensures, ← c.number_of-found.ensures)
    c.word.ensures
