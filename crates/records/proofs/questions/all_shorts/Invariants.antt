-- `records::questions::all_shorts` meets its contract. The invariant: the first i entries are the words' numbers of 32 bits. Assumes nothing.
use Rattle.records.specs.Questions.{short_by}
use Rattle.records.proofs.Parts.{Filled}
use Rattle.records.proofs.questions.all_shorts.Given as goal

abbrev pub invariant-loop-i : goal.invariant-loop-i
invariant-loop-i l = Filled short_by l.q 16384 l.i l.out
