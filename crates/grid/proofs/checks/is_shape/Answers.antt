-- `grid::checks::is_shape` meets its contract. Assumes nothing.
use native.Mathlib.Omega.{arith}
use Rattle.grid.specs.Domain.{shape}
use Rattle.grid.proofs.Shapes.{wide_product}
use Rattle.grid.proofs.checks.is_shape.Goals as goal

pub overflow_mul-result : goal.overflow_mul-result
overflow_mul-result c = record { fits = wide_product _ _ (omega arith) (omega arith) }

pub returns : goal.returns
unfolding shape
returns c = rw (c.is_count.ensures, c.is_count-2.ensures)
