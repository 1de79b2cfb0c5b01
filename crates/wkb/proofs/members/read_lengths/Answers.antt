-- `wkb::members::read_lengths` meets its contract. The invariant: the numbers of points of the members before `at` stand at the start.
-- Assumes nothing.
use mathlib.Core.Path.{◌≡◌, refl, ◌∙◌}
use mathlib.Core.List.{[], ◌∷◌}
use Prim.Native.Nat.{◌+◌, ◌-◌, ◌<◌}
use native.Mathlib.Omega.{arith}
use lib.ListN.{length}
use Rattle.slices.specs.Slices.{cleared_from}
use Rattle.wkb.specs.Reading.{order_at}
use Rattle.wkb.specs.Inside.{counts_at}
use Rattle.wkb.proofs.Fields.{LineFits}
use Rattle.wkb.proofs.Stores.{put_one, fill_none, fill_length, fill_room, fill_more, fill_cleared}
use Rattle.wkb.proofs.Walks.{left_line, left_rest, counts_next, counts_over, length_counts}
use Rattle.wkb.proofs.members.read_lengths.Goals as goal

pub loop-to-init : goal.loop-to-init
loop-to-init c =
    let a = c.args in
    let p = c.requires in
    let z : a.m - 0 ≡ a.m = omega arith in
    rw z (omega (arith, length_counts a.bytes.now a.m 9), p.0, fill_none 0 (counts_at a.m 9 a.bytes.now) a.s.now (omega arith))

pub bounds-bytes-at : goal.bounds-bytes-at
bounds-bytes-at c =
    let line : LineFits c.loop-to.at c.args.bytes.now = left_line (c.args.m - c.loop-to.to) _ _ (omega arith) c.loop-to.invariant.1 in
    let l = line in omega arith

pub points_at-n-requires : goal.points_at-n-requires
unfolding order_at
points_at-n-requires c =
    let line : LineFits c.loop-to.at c.args.bytes.now = left_line (c.args.m - c.loop-to.to) _ _ (omega arith) c.loop-to.invariant.1 in
    (let l = line in omega arith, c.order_of.ensures)

pub overflow_cast-s : goal.overflow_cast-s
overflow_cast-s c =
    let line : LineFits c.loop-to.at c.args.bytes.now = left_line (c.args.m - c.loop-to.to) _ _ (omega arith) c.loop-to.invariant.1 in
    let l = line in omega (arith, c.points_at-n.ensures)

pub offset_bounds-s-to : goal.offset_bounds-s-to
offset_bounds-s-to c =
    let room : c.loop-to.to < length c.loop-to.s =
    let c = c in
    let a = c.args in
    let e = counts_next a.bytes.now (c.args.m - c.loop-to.to) c.loop-to.at (omega arith) c.points_at-n.ensures in
    let r = fill_room c.loop-to.invariant.2 (c.points_at-n.result ∷ []) _ e (omega (arith, c.loop-to.invariant.0)) in
    omega arith in
    let r = room in omega (arith, fill_length c.loop-to.invariant.2)

pub bounds-s-to : goal.bounds-s-to
bounds-s-to c =
    let room : c.loop-to.to < length c.loop-to.s =
    let c = c in
    let a = c.args in
    let e = counts_next a.bytes.now (c.args.m - c.loop-to.to) c.loop-to.at (omega arith) c.points_at-n.ensures in
    let r = fill_room c.loop-to.invariant.2 (c.points_at-n.result ∷ []) _ e (omega (arith, c.loop-to.invariant.0)) in
    omega arith in
    let r = room in omega (arith, fill_length c.loop-to.invariant.2)

pub overflow_add-at : goal.overflow_add-at
overflow_add-at c =
    let line : LineFits c.loop-to.at c.args.bytes.now = left_line (c.args.m - c.loop-to.to) _ _ (omega arith) c.loop-to.invariant.1 in
    let l = line in omega arith

pub overflow_mul-at : goal.overflow_mul-at
overflow_mul-at c =
    let line : LineFits c.loop-to.at c.args.bytes.now = left_line (c.args.m - c.loop-to.to) _ _ (omega arith) c.loop-to.invariant.1 in
    let l = line in omega (arith, c.points_at-n.ensures)

pub overflow_add-at-in-loop-to : goal.overflow_add-at-in-loop-to
overflow_add-at-in-loop-to c =
    let line : LineFits c.loop-to.at c.args.bytes.now = left_line (c.args.m - c.loop-to.to) _ _ (omega arith) c.loop-to.invariant.1 in
    let l = line in omega (arith, c.points_at-n.ensures)

pub loop-to-preserved : goal.loop-to-preserved
loop-to-preserved c =
    let room : c.loop-to.to < length c.loop-to.s =
    let c = c in
    let a = c.args in
    let e = counts_next a.bytes.now (c.args.m - c.loop-to.to) c.loop-to.at (omega arith) c.points_at-n.ensures in
    let r = fill_room c.loop-to.invariant.2 (c.points_at-n.result ∷ []) _ e (omega (arith, c.loop-to.invariant.0)) in
    omega arith in
    let a = c.args in
    let v = c.loop-to.invariant in
    let h : 0 < c.args.m - c.loop-to.to = omega arith in
    let e : c.args.m - (c.loop-to.to + 1) ≡ c.args.m - c.loop-to.to - 1 = omega arith in
    let n = c.points_at-n.result in rw e (
      v.0,
      left_rest (c.args.m - c.loop-to.to) c.loop-to.at a.bytes.now h v.1 n c.points_at-n.ensures,
      fill_more v.2 (counts_next a.bytes.now (c.args.m - c.loop-to.to) c.loop-to.at h c.points_at-n.ensures) (put_one c.loop-to.to n c.loop-to.s room) refl,
    )

pub shape_of-s : goal.shape_of-s
shape_of-s c = c.clear_from.auto.s ∙ fill_length c.loop-to.invariant.2

pub returns : goal.returns
unfolding cleared_from
returns c =
    let a = c.args in
    let e : c.loop-to.to ≡ a.m = omega arith in
    fill_cleared 0 c.loop-to.invariant.2 (counts_over a.bytes.now (c.args.m - c.loop-to.to) c.loop-to.at (omega arith)) (rw (← e) at c.clear_from.ensures)
