-- `cover::rows::aside` meets its contract. Assumes nothing.
use native.Mathlib.Omega.{arith}
use Rattle.cover.proofs.Climbing.{aside_fits, aside_is, aside_small}
use Rattle.cover.proofs.rows.aside.Goals as goal

pub overflow_mul-result : goal.overflow_mul-result
overflow_mul-result c = let h = aside_fits _ _ _ c.requires in omega arith

pub returns : goal.returns
returns c = let p = c.requires in (aside_is _ _ _ p, rw (aside_is _ _ _ p) (aside_small _ _ _ p))
