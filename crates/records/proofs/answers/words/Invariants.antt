-- `records::answers::words` meets its contract. The invariant: the first i words are put. Assumes nothing.
use lib.ListN.{take}
use Rattle.records.specs.Answers.{PutWords}
use Rattle.records.proofs.answers.words.Given as goal

abbrev pub invariant-loop-value : goal.invariant-loop-value
invariant-loop-value l = PutWords l.at (take l.value-index l.s) l.initial.out l.to l.out
