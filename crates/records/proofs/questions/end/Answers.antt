-- `records::questions::end` meets its contract. Assumes nothing.
use native.Mathlib.Omega.{arith}
use borrow.Author.Rules.{rules}
use Rattle.records.specs.Questions.{slice_end}
use Rattle.records.proofs.questions.end.Goals as goal

pub returns-then-q-at : goal.returns-then-q-at
unfolding slice_end
returns-then-q-at c = omega arith

pub offset_bounds-q-at : goal.offset_bounds-q-at
unfolding slice_end
offset_bounds-q-at c = search rules

pub bounds-q-at : goal.bounds-q-at
unfolding slice_end
bounds-q-at c = search rules

pub overflow_sub-room : goal.overflow_sub-room
unfolding slice_end
overflow_sub-room c = search rules

pub overflow_sub-room-2 : goal.overflow_sub-room-2
unfolding slice_end
overflow_sub-room-2 c = search rules

pub returns-then-room-n : goal.returns-then-room-n
unfolding slice_end
returns-then-room-n c = omega arith

pub overflow_add-result : goal.overflow_add-result
unfolding slice_end
overflow_add-result c = search rules

pub overflow_add-result-2 : goal.overflow_add-result-2
unfolding slice_end
overflow_add-result-2 c = search rules

pub returns : goal.returns
unfolding slice_end
returns c = omega arith
