-- `counts::cell_count` meets its contract. Assumes nothing.
use mathlib.Core.Path.{refl}
use native.Mathlib.Omega.{arith}
use Rattle.grid.proofs.Shapes.{wide_product}
use Rattle.counts.proofs.cell_count.Goals as goal

pub overflow_mul-result : goal.overflow_mul-result
overflow_mul-result c = record { fits = wide_product _ _ (omega arith) (omega arith) }

pub returns : goal.returns
returns c = refl
