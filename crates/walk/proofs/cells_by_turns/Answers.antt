-- `walk::cells_by_turns` meets its contract. Assumes nothing.
use Rattle.std.proofs.lemmas.Result.{err_from_is_err_and}
use mathlib.Core.Path.{◌∙◌}
use native.Mathlib.Omega.{arith}
use Rattle.walk.proofs.Answer.{none_answer, trod_shape, trod_room, trod_inside, found_answer, refused_answer}
use Rattle.walk.proofs.cells_by_turns.Goals as goal

pub returns-then-grid-eq0 : goal.returns-then-grid-eq0
returns-then-grid-eq0 c = none_answer _ _ _ _ _ c.if-grid-eq0.true c.none_reached.ensures

pub completed-m-requires : goal.completed-m-requires
completed-m-requires c =
    let m = c.args.mode in
    let h = c.if-grid-eq0.false in
    let p = c.walk_by_turns.ensures in
    let e = c.in_ok-trod.was in
    record { shape = trod_shape m _ _ h p _ e; some_columns = omega (arith, h); room = trod_room m _ _ h p _ e; all_below = trod_inside m _ _ h p _ e }

pub returns : goal.returns
returns c =
    let h = c.if-grid-eq0.false in
    let w = c.walk_by_turns in
    let m = c.completed-m in
    let k = c.order_and_keep-count in
    found_answer _ _ _ h w.ensures _ c.in_ok-trod.was
    m.result _ m.new.s _ m.ensures (k.auto.s ∙ m.auto.s ∙ w.ensures.size) k.ensures

pub returns-in_err-trod : goal.returns-in_err-trod
returns-in_err-trod c =
    let p = err_from_is_err_and c.from_residual.result c.from_residual.ensures.1 in
    rw (p.1, p.2) (refused_answer _ _ _ c.if-grid-eq0.false c.walk_by_turns.ensures _ c.in_err-trod.was)
