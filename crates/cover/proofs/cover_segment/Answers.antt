-- `cover::cover_segment` meets its contract. Assumes nothing.
use Rattle.std.specs.Prelude.{Ok}
use Rattle.std.proofs.lemmas.Result.{err_from_is_err_and}
use mathlib.Core.Path.{◌≡◌, sym, ◌∙◌}
use native.Mathlib.Omega.{arith}
use lib.ListN.{length}
use Rattle.cover.specs.Covering.{scratch_shape_check}
use Rattle.cover.proofs.Entry.{frame_of, room_for, room_shape, refused_answer, none_answer, rule_answer, everywhere_answer, all_answer}
use Rattle.cover.proofs.cover_segment.Goals as goal

pub returns-in_err-check_room : goal.returns-in_err-check_room
returns-in_err-check_room c =
    let p = err_from_is_err_and c.from_residual.result c.from_residual.ensures.1 in
    rw (p.1, p.2) (refused_answer _ _ _ _ (sym c.in_err-check_room.ensures))

pub returns-then-grid-eq0 : goal.returns-then-grid-eq0
returns-then-grid-eq0 c =
    let checked : let a = c.args in scratch_shape_check (length a.scratch.now) a.grid ≡ Ok tt = sym c.in_ok-check_room.ensures in
    none_answer _ _ _ checked c.if-grid-eq0.true

pub ends_of-requires : goal.ends_of-requires
ends_of-requires c = sym c.passes.ensures ∙ c.if-passes.true

pub cells_between-n-requires : goal.cells_between-n-requires
cells_between-n-requires c =
    let checked : let a = c.args in scratch_shape_check (length a.scratch.now) a.grid ≡ Ok tt = sym c.in_ok-check_room.ensures in
    let f = checked in
    frame_of _ _ (sym c.passes.ensures ∙ c.if-passes.true) _ _ c.ends_of.ensures (room_shape _ _ f) (omega (arith, c.if-grid-eq0.false)) (room_for _ _ f)

pub returns-then-passes : goal.returns-then-passes
returns-then-passes c =
    let checked : let a = c.args in scratch_shape_check (length a.scratch.now) a.grid ≡ Ok tt = sym c.in_ok-check_room.ensures in
    rule_answer _ _ _ checked _ _ _ (omega (arith, c.if-grid-eq0.false)) (sym c.passes.ensures ∙ c.if-passes.true)
    c.ends_of.ensures c.cells_between-n.auto.scratch c.cells_between-n.ensures

pub overflow_mul-all : goal.overflow_mul-all
overflow_mul-all c =
    let checked : let a = c.args in scratch_shape_check (length a.scratch.now) a.grid ≡ Ok tt = sym c.in_ok-check_room.ensures in
    let h = (room_shape _ _ checked).cells in omega arith

pub returns-then-all-gt2048 : goal.returns-then-all-gt2048
returns-then-all-gt2048 c =
    let checked : let a = c.args in scratch_shape_check (length a.scratch.now) a.grid ≡ Ok tt = sym c.in_ok-check_room.ensures in
    everywhere_answer _ _ _ checked (sym c.passes.ensures ∙ c.if-passes.false) (omega arith)

pub put_run-n-requires : goal.put_run-n-requires
put_run-n-requires c =
    let checked : let a = c.args in scratch_shape_check (length a.scratch.now) a.grid ≡ Ok tt = sym c.in_ok-check_room.ensures in
    let r = room_for _ _ checked in record { room_for_eight = omega arith; room = omega arith; numbers_fit = omega arith }

pub returns : goal.returns
returns c =
    let checked : let a = c.args in scratch_shape_check (length a.scratch.now) a.grid ≡ Ok tt = sym c.in_ok-check_room.ensures in
    all_answer _ _ _ checked _ _ (omega (arith, c.if-grid-eq0.false)) (sym c.passes.ensures ∙ c.if-passes.false) (omega arith) c.put_run-n.ensures
