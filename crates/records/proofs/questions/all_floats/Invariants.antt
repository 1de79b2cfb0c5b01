-- `records::questions::all_floats` meets its contract. The invariant: the first i entries are the words' floats. Assumes nothing.
use Rattle.records.specs.Questions.{float_by}
use Rattle.records.proofs.Parts.{Filled}
use Rattle.records.proofs.questions.all_floats.Given as goal

abbrev pub invariant-loop-i : goal.invariant-loop-i
invariant-loop-i l = Filled float_by l.q 16384 l.i l.out
