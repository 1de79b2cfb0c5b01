-- `asked_points::ask` meets its contract. Assumes nothing.
use native.Mathlib.Omega.{arith}
use borrow.Author.Rules.{rules}
use Rattle.records.proofs.Puts.{put_none}
use Rattle.asked_points.specs.Asked.{words_for}
use Rattle.asked_points.proofs.ByKind.{words_none}
use Rattle.asked_points.proofs.ask.Goals as goal

pub shape_of-answer-then-kind-eq1 : goal.shape_of-answer-then-kind-eq1
unfolding words_for
shape_of-answer-then-kind-eq1 c = search rules

pub returns-then-kind-eq1 : goal.returns-then-kind-eq1
unfolding words_for
returns-then-kind-eq1 c = rw c.if-kind-eq1.true c.number.ensures

pub shape_of-answer-then-kind-eq6 : goal.shape_of-answer-then-kind-eq6
unfolding words_for
shape_of-answer-then-kind-eq6 c = search rules

pub returns-then-kind-eq6 : goal.returns-then-kind-eq6
unfolding words_for
returns-then-kind-eq6 c = rw c.if-kind-eq6.true c.point_owned.ensures

pub shape_of-answer-then-kind-eq7 : goal.shape_of-answer-then-kind-eq7
unfolding words_for
shape_of-answer-then-kind-eq7 c = search rules

pub returns-then-kind-eq7 : goal.returns-then-kind-eq7
unfolding words_for
returns-then-kind-eq7 c = rw c.if-kind-eq7.true c.overlap_owned.ensures

pub shape_of-answer-then-kind-eq8 : goal.shape_of-answer-then-kind-eq8
unfolding words_for
shape_of-answer-then-kind-eq8 c = search rules

pub returns-then-kind-eq8 : goal.returns-then-kind-eq8
unfolding words_for
returns-then-kind-eq8 c = rw c.if-kind-eq8.true c.owner.ensures

pub shape_of-answer-then-kind-eq9 : goal.shape_of-answer-then-kind-eq9
unfolding words_for
shape_of-answer-then-kind-eq9 c = search rules

pub returns-then-kind-eq9 : goal.returns-then-kind-eq9
unfolding words_for
returns-then-kind-eq9 c = rw c.if-kind-eq9.true c.snap.ensures

pub shape_of-answer-then-kind-eq10 : goal.shape_of-answer-then-kind-eq10
unfolding words_for
shape_of-answer-then-kind-eq10 c = search rules

pub returns-then-kind-eq10 : goal.returns-then-kind-eq10
unfolding words_for
returns-then-kind-eq10 c = rw c.if-kind-eq10.true c.strategies.ensures

pub returns : goal.returns
unfolding words_for
returns c = rw (← words_none _ c.args.question.now c.if-kind-eq1.false c.if-kind-eq6.false c.if-kind-eq7.false c.if-kind-eq8.false c.if-kind-eq9.false c.if-kind-eq10.false) (put_none _ _ (omega arith))
