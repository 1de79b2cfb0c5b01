-- `build::choose::most_on` meets its contract. Assumes nothing.
use native.Mathlib.Omega.{arith}
use Rattle.grid.proofs.Shapes.{wide_product}
use Rattle.build.proofs.Choices.{most_none, most_some, most_many}
use Rattle.build.proofs.choose.most_on.Goals as goal

pub returns-then-left-eq0 : goal.returns-then-left-eq0
returns-then-left-eq0 c = most_none c.args.grid _ c.if-left-eq0.true

pub overflow_mul-cells : goal.overflow_mul-cells
overflow_mul-cells c = record { fits = wide_product c.args.grid.rows c.args.grid.cols (omega arith) (omega arith) }

pub returns-then-cells-lt250000 : goal.returns-then-cells-lt250000
returns-then-cells-lt250000 c = most_some c.args.grid _ c.if-left-eq0.false c.if-cells-lt250000.true

pub returns : goal.returns
returns c = most_many c.args.grid _ c.if-left-eq0.false c.if-cells-lt250000.false
