-- `cover::runs::put_run` meets its contract. Assumes nothing.
use native.Mathlib.Omega.{arith}
use Rattle.cover.proofs.Growing.{run_front, run_rest, run_room}
use Rattle.cover.proofs.runs.put_run.Goals as goal

pub returns-then-k-lt9 : goal.returns-then-k-lt9
returns-then-k-lt9 c = run_front 8 _ _ (omega arith) (omega arith) c.put_each-m.ensures

pub put_each-requires : goal.put_each-requires
put_each-requires c =
    let a = c.args in
    record { room = run_room 8 a.first a.k (omega arith) (omega arith) c.put_each-m.ensures; numbers_fit = omega arith }

pub returns : goal.returns
returns c = run_rest 8 _ _ (omega arith) c.put_each-m.ensures c.put_each.ensures
