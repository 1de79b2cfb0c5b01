-- `clean::values::put_kept` meets its contract. The invariant: of the first i values, those that are kept stand at the start. Assumes nothing.
use Rattle.clean.proofs.Parts.{Keeping}
use Rattle.clean.proofs.values.put_kept.Given as goal

abbrev pub invariant-loop-i : goal.invariant-loop-i
invariant-loop-i l = Keeping l.values l.reasons l.initial.kept l.kept l.at l.i
