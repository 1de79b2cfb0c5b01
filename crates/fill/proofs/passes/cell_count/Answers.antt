-- `fill::passes::cell_count` meets its contract. Assumes nothing.
use mathlib.Core.Path.{refl}
use native.Mathlib.Omega.{arith}
use Rattle.grid.proofs.Shapes.{shape_says, fit_shape}
use Rattle.fill.proofs.passes.cell_count.Goals as goal

pub overflow_mul-result : goal.overflow_mul-result
overflow_mul-result c = record { fits = omega (arith, (shape_says _ _ (fit_shape _ c.requires)).cells) }

pub returns : goal.returns
returns c = (refl, (shape_says _ _ (fit_shape _ c.requires)).cells)
