-- `blocks::owning::is_rising` meets its contract. Assumes nothing.
use mathlib.Core.Path.{◌∙◌}
use native.Mathlib.Omega.{arith}
use Rattle.grid.proofs.Shapes.{wide_product}
use Rattle.blocks.proofs.Owns.{rising_short, rising_is}
use Rattle.blocks.proofs.owning.is_rising.Goals as goal

pub overflow_mul-cells : goal.overflow_mul-cells
overflow_mul-cells c = record { fits = wide_product c.wide.result c.wide-2.result (omega arith) (omega arith) }

pub returns-then-offsets-cells : goal.returns-then-offsets-cells
returns-then-offsets-cells c = let a = c.args in rising_short a.grid a.offsets.now (rw (← c.wide.ensures, ← c.wide-2.ensures) c.if-offsets-cells.true)

pub returns : goal.returns
returns c = let a = c.args in rw (c.wide.ensures, c.wide-2.ensures) at c.never_fall.ensures ∙ rising_is a.grid a.offsets.now (rw (← c.wide.ensures, ← c.wide-2.ensures) (omega arith))
