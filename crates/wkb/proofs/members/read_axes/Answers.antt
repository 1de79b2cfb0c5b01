-- `wkb::members::read_axes` meets its contract. The invariant: the coordinates of the members before `at` stand at the start. Assumes nothing.
use mathlib.Core.Path.{◌≡◌, sym, ◌∙◌}
use Prim.Native.Nat.{◌+◌, ◌-◌, ◌≤◌, ◌<◌}
use native.Mathlib.Omega.{arith}
use lib.ListN.{length}
use Rattle.wkb.specs.Reading.{order_at}
use Rattle.wkb.specs.Inside.{numbers_at, axes_at}
use Rattle.wkb.proofs.Axes.{length_numbers}
use Rattle.wkb.proofs.Fields.{LineFits}
use Rattle.wkb.proofs.Stores.{fill_none, fill_length, fill_room, fill_more, fill_cleared}
use Rattle.wkb.proofs.Walks.{left_line, left_rest, axes_next, axes_over}
use Rattle.wkb.proofs.members.read_axes.Goals as goal

pub loop-init : goal.loop-init
loop-init c =
    let a = c.args in
    let p = c.requires in
    let z : a.m - 0 ≡ a.m = omega arith in
    rw z (p.1, p.2, p.0, fill_none 0 (axes_at a.skip a.m 9 a.bytes.now) a.s.now (omega arith))

pub bounds-bytes-at : goal.bounds-bytes-at
bounds-bytes-at c =
    let line : LineFits c.loop.at c.args.bytes.now = left_line (c.args.m - c.loop.counter) _ _ (omega arith) c.loop.invariant.2 in
    let l = line in omega arith

pub points_at-n-requires : goal.points_at-n-requires
unfolding order_at
points_at-n-requires c =
    let line : LineFits c.loop.at c.args.bytes.now = left_line (c.args.m - c.loop.counter) _ _ (omega arith) c.loop.invariant.2 in
    let order_is : c.order_of-order.result ≡ order_at c.loop.at c.args.bytes.now = c.order_of-order.ensures in
    (let l = line in omega arith, order_is)

pub overflow_add-at : goal.overflow_add-at
overflow_add-at c =
    let line : LineFits c.loop.at c.args.bytes.now = left_line (c.args.m - c.loop.counter) _ _ (omega arith) c.loop.invariant.2 in
    let l = line in omega arith

pub overflow_add-at-in-loop : goal.overflow_add-at-in-loop
overflow_add-at-in-loop c =
    let line : LineFits c.loop.at c.args.bytes.now = left_line (c.args.m - c.loop.counter) _ _ (omega arith) c.loop.invariant.2 in
    let l = line in omega arith

pub read_numbers-requires : goal.read_numbers-requires
unfolding order_at
read_numbers-requires c =
    let line : LineFits c.loop.at c.args.bytes.now = left_line (c.args.m - c.loop.counter) _ _ (omega arith) c.loop.invariant.2 in
    let order_is : c.order_of-order.result ≡ order_at c.loop.at c.args.bytes.now = c.order_of-order.ensures in
    let room : c.loop.to + c.points_at-n.result ≤ length c.loop.s =
    let c = c in
    let a = c.args in
    let e = axes_next a.bytes.now a.skip (c.args.m - c.loop.counter) c.loop.at (omega arith) order_is c.points_at-n.ensures in
    let part = numbers_at c.order_of-order.result c.points_at-n.result (c.loop.at + 9 + a.skip) a.bytes.now in
    let r : c.loop.to + length part ≤ length c.loop.s = fill_room c.loop.invariant.3 part _ e (omega (arith, c.loop.invariant.1)) in
    omega (arith, length_numbers c.order_of-order.result a.bytes.now c.points_at-n.result (c.loop.at + 9 + a.skip)) in
    let l = line in
    let r = room in
    let n = c.points_at-n.ensures in
    (omega arith, omega arith)

pub overflow_add-at-in-loop-2 : goal.overflow_add-at-in-loop-2
overflow_add-at-in-loop-2 c =
    let line : LineFits c.loop.at c.args.bytes.now = left_line (c.args.m - c.loop.counter) _ _ (omega arith) c.loop.invariant.2 in
    let l = line in omega arith

pub overflow_mul-at : goal.overflow_mul-at
overflow_mul-at c =
    let line : LineFits c.loop.at c.args.bytes.now = left_line (c.args.m - c.loop.counter) _ _ (omega arith) c.loop.invariant.2 in
    let l = line in let n = c.points_at-n.ensures in omega arith

pub overflow_add-at-in-loop-3 : goal.overflow_add-at-in-loop-3
overflow_add-at-in-loop-3 c =
    let line : LineFits c.loop.at c.args.bytes.now = left_line (c.args.m - c.loop.counter) _ _ (omega arith) c.loop.invariant.2 in
    let l = line in let n = c.points_at-n.ensures in omega arith

pub overflow_add-to : goal.overflow_add-to
unfolding order_at
overflow_add-to c =
    let order_is : c.order_of-order.result ≡ order_at c.loop.at c.args.bytes.now = c.order_of-order.ensures in
    let room : c.loop.to + c.points_at-n.result ≤ length c.loop.s =
    let c = c in
    let a = c.args in
    let e = axes_next a.bytes.now a.skip (c.args.m - c.loop.counter) c.loop.at (omega arith) order_is c.points_at-n.ensures in
    let part = numbers_at c.order_of-order.result c.points_at-n.result (c.loop.at + 9 + a.skip) a.bytes.now in
    let r : c.loop.to + length part ≤ length c.loop.s = fill_room c.loop.invariant.3 part _ e (omega (arith, c.loop.invariant.1)) in
    omega (arith, length_numbers c.order_of-order.result a.bytes.now c.points_at-n.result (c.loop.at + 9 + a.skip)) in
    let r = room in omega (arith, fill_length c.loop.invariant.3)

pub loop-preserved : goal.loop-preserved
unfolding order_at
loop-preserved c =
    let order_is : c.order_of-order.result ≡ order_at c.loop.at c.args.bytes.now = c.order_of-order.ensures in
    let a = c.args in
    let v = c.loop.invariant in
    let h : 0 < c.args.m - c.loop.counter = omega arith in
    let e : c.args.m - (c.loop.counter + 1) ≡ c.args.m - c.loop.counter - 1 = omega arith in
    let n = c.points_at-n.result in rw e (
      v.0,
      v.1,
      left_rest (c.args.m - c.loop.counter) c.loop.at a.bytes.now h v.2 n c.points_at-n.ensures,
      fill_more v.3 (axes_next a.bytes.now a.skip (c.args.m - c.loop.counter) c.loop.at h order_is c.points_at-n.ensures) c.read_numbers.ensures
          (sym (length_numbers c.order_of-order.result a.bytes.now n (c.loop.at + 9 + a.skip))),
    )

pub shape_of-s : goal.shape_of-s
shape_of-s c = c.clear_words.auto.s ∙ fill_length c.loop.invariant.3

pub returns : goal.returns
returns c =
    let a = c.args in
    fill_cleared 0 c.loop.invariant.3 (axes_over a.bytes.now a.skip (c.args.m - c.loop.counter) c.loop.at (omega arith)) c.clear_words.ensures
