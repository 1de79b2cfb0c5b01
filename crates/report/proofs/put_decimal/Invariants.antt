-- `report::put_decimal` meets its contract. The invariant: the digits from i on stand in the text. Assumes nothing.
use Rattle.report.proofs.Digits.{Found10}
use Rattle.report.proofs.put_decimal.Given as goal

abbrev pub invariant-loop-rest : goal.invariant-loop-rest
invariant-loop-rest l = Found10 l.n l.text l.i l.rest

abbrev pub decreases-loop-rest : goal.decreases-loop-rest
decreases-loop-rest l = l.i
