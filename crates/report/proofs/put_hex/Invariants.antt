-- `report::put_hex` meets its contract. The invariant: the digits from i on stand in the text. Assumes nothing.
use Rattle.report.proofs.Digits.{Found16}
use Rattle.report.proofs.put_hex.Given as goal

abbrev pub invariant-loop-i : goal.invariant-loop-i
invariant-loop-i l = Found16 l.n l.text l.i l.rest
