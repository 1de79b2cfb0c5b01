-- `clean::clean` meets its contract: a refusal, or the reasons, the lengths and the values that are kept. Assumes nothing.
use Rattle.std.specs.Prelude.{Ok}
use Rattle.std.proofs.lemmas.Result.{err_from_is_err_and}
use mathlib.Core.Path.{◌≡◌, sym}
use native.Mathlib.Omega.{arith}
use lib.ListN.{length}
use Rattle.members.specs.Held.{held_check}
use Rattle.members.proofs.Held.{held_says}
use Rattle.clean.specs.Calls.{outputs, kept_room_check}
use Rattle.clean.proofs.Entry.{lent_says, room_of, clean_held, clean_lent, clean_all}
use Rattle.clean.proofs.clean.Goals as goal

pub returns-in_err-check_held : goal.returns-in_err-check_held
returns-in_err-check_held c =
    let a = c.args in
    let p = err_from_is_err_and c.from_residual.result c.from_residual.ensures.1 in
    rw (p.1, p.2) (clean_held a.x.now a.y.now a.lengths.now (outputs a.kept_x.now a.kept_y.now a.kept_lengths.now a.reasons.now) _ (sym c.in_err-check_held.ensures))

pub returns-in_err-check_outputs : goal.returns-in_err-check_outputs
returns-in_err-check_outputs c =
    let held : let a = c.args in held_check (length a.x.now) (length a.y.now) a.lengths.now ≡ (Ok tt) = sym c.in_ok-check_held.ensures in
    let a = c.args in
    let p = err_from_is_err_and c.from_residual-in_err-check_outputs.result c.from_residual-in_err-check_outputs.ensures.1 in
    rw (p.1, p.2) (clean_lent a.x.now a.y.now a.lengths.now (outputs a.kept_x.now a.kept_y.now a.kept_lengths.now a.reasons.now) held _ (sym c.in_err-check_outputs.ensures))

pub mark_members-members-requires : goal.mark_members-members-requires
mark_members-members-requires c =
    let held : let a = c.args in held_check (length a.x.now) (length a.y.now) a.lengths.now ≡ (Ok tt) = sym c.in_ok-check_held.ensures in
    let lent : let a = c.args in kept_room_check (length a.x.now) (outputs a.kept_x.now a.kept_y.now a.kept_lengths.now a.reasons.now) ≡ (Ok tt) = sym c.in_ok-check_outputs.ensures in
    (held, room_of (lent_says _ _ lent))

pub put_kept-points-requires : goal.put_kept-points-requires
put_kept-points-requires c =
    let lent : let a = c.args in kept_room_check (length a.x.now) (outputs a.kept_x.now a.kept_y.now a.kept_lengths.now a.reasons.now) ≡ (Ok tt) = sym c.in_ok-check_outputs.ensures in
    let l = lent_says _ _ lent in
    (omega (arith, c.mark_members-members.auto.reasons, l.marks), omega (arith, l.points))

pub put_kept-requires : goal.put_kept-requires
put_kept-requires c =
    let held : let a = c.args in held_check (length a.x.now) (length a.y.now) a.lengths.now ≡ (Ok tt) = sym c.in_ok-check_held.ensures in
    let lent : let a = c.args in kept_room_check (length a.x.now) (outputs a.kept_x.now a.kept_y.now a.kept_lengths.now a.reasons.now) ≡ (Ok tt) = sym c.in_ok-check_outputs.ensures in
    let l = lent_says _ _ lent in
    let h = held_says _ _ _ held in
    (omega (arith, c.mark_members-members.auto.reasons, l.marks, h.alike), omega (arith, l.points, l.alike, h.alike))

pub returns : goal.returns
returns c =
    let held : let a = c.args in held_check (length a.x.now) (length a.y.now) a.lengths.now ≡ (Ok tt) = sym c.in_ok-check_held.ensures in
    let lent : let a = c.args in kept_room_check (length a.x.now) (outputs a.kept_x.now a.kept_y.now a.kept_lengths.now a.reasons.now) ≡ (Ok tt) = sym c.in_ok-check_outputs.ensures in
    let a = c.args in
    clean_all a.x.now a.y.now a.lengths.now (outputs a.kept_x.now a.kept_y.now a.kept_lengths.now a.reasons.now) held lent c.mark_members-members.ensures c.put_kept-points.ensures c.put_kept.ensures
