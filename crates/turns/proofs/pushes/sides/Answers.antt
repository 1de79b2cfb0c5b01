-- `turns::pushes::sides` meets its contract. Assumes nothing.
use Rattle.std.proofs.Common.{arith}
use Rattle.turns.specs.InsideModular.{sides_by}
use Rattle.cover.proofs.Growing.{then}
use Rattle.turns.proofs.Grows.{at_most_one}
use Rattle.turns.proofs.pushes.sides.Goals as goal

pub put-requires : goal.put-requires
put-requires c = let a = c.args in let p = c.put-a.ensures in record { room = omega (arith, p.count, p.len, at_most_one a.cols a.rows c.stepped.result a.w.y.index); few_cells = omega arith }

pub returns : goal.returns
unfolding sides_by
returns c = rw (← c.stepped.ensures, ← c.stepped-2.ensures) (then c.put-a.ensures c.put.ensures)
