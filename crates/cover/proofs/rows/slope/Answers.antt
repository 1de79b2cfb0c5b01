-- `cover::rows::slope` meets its contract. Assumes nothing.
use native.Mathlib.Omega.{arith}
use Rattle.cover.specs.Rule.{slope_of}
use Rattle.cover.proofs.Climbing.{slope_none}
use Rattle.cover.proofs.rows.slope.Goals as goal

pub returns-then-e : goal.returns-then-e
unfolding slope_of
returns-then-e c = cc

pub returns : goal.returns
returns c = slope_none _ (omega arith)
