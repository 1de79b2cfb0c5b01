-- `fill::filling::plan` meets its contract. Assumes nothing.
use Rattle.std.proofs.lemmas.Result.{err_from_is_err_and}
use mathlib.Core.Path.{◌∙◌}
use Rattle.fill.proofs.Fills.{sum_asks}
use Rattle.fill.proofs.Entries.{plan_asks, plan_refused, plan_crowded, plan_five, plan_six, plan_made}
use Rattle.fill.proofs.filling.plan.Goals as goal

pub cell_count-n-requires : goal.cell_count-n-requires
cell_count-n-requires c = let k = c.count_lent in (plan_asks k.ensures _ c.in_ok-found.was k.auto.scratch).walkable.fits

pub running_sums-sums-requires : goal.running_sums-sums-requires
running_sums-sums-requires c =
    let k = c.count_lent in
    sum_asks (plan_asks k.ensures _ c.in_ok-found.was k.auto.scratch) _ c.cell_count-n.ensures.0

pub shape_of-offsets-then-sums : goal.shape_of-offsets-then-sums
shape_of-offsets-then-sums c = c.running_sums-sums.auto.offsets ∙ c.count_lent.auto.offsets

pub returns-then-sums : goal.returns-then-sums
returns-then-sums c =
    let k = c.count_lent in
    let r = c.running_sums-sums in
    record { by = plan_crowded k.ensures _ _ _ _ c.in_ok-found.was k.auto.scratch _ c.cell_count-n.ensures.0 r.ensures.crowd c.if-sums.true }

pub shape_of-offsets-then-items-sum : goal.shape_of-offsets-then-items-sum
shape_of-offsets-then-items-sum c = c.running_sums-sums.auto.offsets ∙ c.count_lent.auto.offsets

pub returns-then-items-sum : goal.returns-then-items-sum
returns-then-items-sum c =
    let k = c.count_lent in
    let r = c.running_sums-sums in
    record { by = plan_five k.ensures _ _ _ _ c.in_ok-found.was k.auto.scratch _ c.cell_count-n.ensures.0 r.ensures.crowd c.if-sums.false (r.ensures.sums c.if-sums.false) r.auto.offsets k.auto.offsets c.if-items-sum.true }

pub shape_of-offsets-then-globals-found : goal.shape_of-offsets-then-globals-found
shape_of-offsets-then-globals-found c = c.running_sums-sums.auto.offsets ∙ c.count_lent.auto.offsets

pub returns-then-globals-found : goal.returns-then-globals-found
returns-then-globals-found c =
    let k = c.count_lent in
    let r = c.running_sums-sums in
    record { by = plan_six k.ensures _ _ _ _ c.in_ok-found.was k.auto.scratch _ c.cell_count-n.ensures.0 r.ensures.crowd c.if-sums.false (r.ensures.sums c.if-sums.false) r.auto.offsets k.auto.offsets c.if-items-sum.false c.if-globals-found.true }

pub shape_of-offsets : goal.shape_of-offsets
shape_of-offsets c = c.running_sums-sums.auto.offsets ∙ c.count_lent.auto.offsets

pub returns : goal.returns
returns c =
    let k = c.count_lent in
    let r = c.running_sums-sums in
    record { by = plan_made k.ensures _ _ _ _ c.in_ok-found.was k.auto.scratch _ c.cell_count-n.ensures.0 r.ensures.crowd c.if-sums.false (r.ensures.sums c.if-sums.false) r.auto.offsets k.auto.offsets c.if-items-sum.false c.if-globals-found.false }

pub returns-in_err-found : goal.returns-in_err-found
returns-in_err-found c =
    let p = err_from_is_err_and c.from_residual.result c.from_residual.ensures.1 in
    rw (p.1, p.2) (record { by = plan_refused c.count_lent.ensures _ _ _ _ c.in_err-found.was })
