-- `records::answers::written` meets its contract. The invariant: after the number of entries, the first of them are put. Assumes nothing.
use lib.ListN.{take}
use Rattle.records.specs.Answers.{PutWords}
use Rattle.records.proofs.answers.written.Given as goal

abbrev pub invariant-loop-value : goal.invariant-loop-value
invariant-loop-value l = PutWords l.initial.to (take l.value-index l.value-items) l.initial.answer l.to l.answer
