-- `turns::walk_by_turns` meets its contract. Assumes nothing.
use Rattle.std.specs.Prelude.{Ok}
use Rattle.std.proofs.lemmas.Result.{err_from_is_err_and}
use Rattle.std.proofs.Common.{◌≡◌, length, sym}
use Rattle.cover.specs.Covering.{scratch_shape_check}
use Rattle.cover.proofs.Entry.{room_for, room_shape}
use Rattle.turns.proofs.Entry.{check_trail, done_trail, over_trail}
use Rattle.turns.proofs.walk_by_turns.Goals as goal

pub returns-in_err-check_room : goal.returns-in_err-check_room
returns-in_err-check_room c =
    let p = err_from_is_err_and c.from_residual.result c.from_residual.ensures.1 in
    rw (p.1, p.2) (check_trail _ _ _ _ (sym c.in_err-check_room.ensures))

pub walked-ran-requires : goal.walked-ran-requires
walked-ran-requires c =
    let checked : let a = c.args in scratch_shape_check (length a.scratch.now) a.grid ≡ Ok tt = sym c.in_ok-check_room.ensures in
    let f = checked in record { room = room_for _ _ f; few_cells = (room_shape _ _ f).cells }

pub returns-in-Some : goal.returns-in-Some
returns-in-Some c =
    let checked : let a = c.args in scratch_shape_check (length a.scratch.now) a.grid ≡ Ok tt = sym c.in_ok-check_room.ensures in
    done_trail _ _ _ checked _ _ _ _ c.way_of-way.ensures c.started-start.ensures c.walked-ran.ensures
    c.walked-ran.auto.s _ c.in-Some.is

pub returns-in-None : goal.returns-in-None
returns-in-None c =
    let checked : let a = c.args in scratch_shape_check (length a.scratch.now) a.grid ≡ Ok tt = sym c.in_ok-check_room.ensures in
    over_trail _ _ _ checked _ _ _ _ c.way_of-way.ensures c.started-start.ensures c.walked-ran.ensures
    c.walked-ran.auto.s _ c.in-None.is c.clear_from.auto.s c.clear_from.ensures
