-- `fill::count_on` meets its contract. Assumes nothing.
use mathlib.Core.Path.{◌∙◌}
use Rattle.fill.proofs.Entries.{count_done, count_refused}
use Rattle.fill.proofs.count_on.Goals as goal

pub shape_of-counts-in-Err : goal.shape_of-counts-in-Err
shape_of-counts-in-Err c = c.leave.auto.s ∙ c.count_lent-counted.auto.offsets

pub shape_of-scratch-in-Err : goal.shape_of-scratch-in-Err
shape_of-scratch-in-Err c = c.leave-in-Err.auto.s ∙ c.count_lent-counted.auto.scratch

pub returns-in-Err : goal.returns-in-Err
returns-in-Err c = count_refused c.count_lent-counted.ensures _ c.in-Err.is c.leave.ensures c.leave-in-Err.ensures

pub shape_of-scratch : goal.shape_of-scratch
shape_of-scratch c = c.clear.auto.s ∙ c.count_lent-counted.auto.scratch

pub returns : goal.returns
returns c =
    let k = c.count_lent-counted in
    count_done k.ensures _ c.in_default.is k.auto.offsets c.clear.ensures k.auto.scratch
