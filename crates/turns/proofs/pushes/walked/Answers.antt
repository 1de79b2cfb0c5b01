-- `turns::pushes::walked` meets its contract. Assumes nothing.
use Rattle.std.proofs.Common.{arith}
use Rattle.turns.proofs.Loop.{within_done, walked_done, walked_over}
use Rattle.turns.proofs.Grows.{at_most_one}
use Rattle.turns.proofs.pushes.walked.Goals as goal

pub run-requires : goal.run-requires
run-requires c = let a = c.args in let p = c.put-n.ensures in record { room = omega (arith, p.count, p.len, at_most_one a.cols a.rows a.start.x.index a.start.y.index); few_cells = c.requires.few_cells }

pub put_other-requires : goal.put_other-requires
put_other-requires c = let a = c.args in let p = c.put-n.ensures in let q = c.run in let l = within_done _ _ _ c.in_ok-m.was q.ensures.all in record { room = omega (arith, p.count, p.len, q.auto.s, at_most_one a.cols a.rows a.start.x.index a.start.y.index); few_cells = c.requires.few_cells }

pub returns : goal.returns
returns c = walked_done _ _ _ _ c.put-n.ensures c.run.ensures c.in_ok-m.was c.put_other.ensures

pub returns-in_err-m : goal.returns-in_err-m
returns-in_err-m c = rw c.from_residual.ensures (walked_over _ _ _ _ c.put-n.ensures c.run.ensures c.in_err-m.was)
