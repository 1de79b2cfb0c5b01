-- `members::bytes::put_member` meets its contract: a byte, two numbers and the points, one after another. Assumes nothing.
use mathlib.Core.Path.{◌≡◌, ◌∙◌}
use Prim.Native.Nat.{◌≤◌}
use native.Mathlib.Omega.{arith}
use lib.ListN.{length, take, drop, length-set, length-drop}
use lib.Seq.{length-take-le}
use Rattle.wkb.proofs.Stores.{put_one, put_length}
use Rattle.members.specs.Held.{points_of}
use Rattle.members.proofs.Held.{length_points_of}
use Rattle.members.proofs.Putting.{put_line}
use Rattle.members.proofs.bytes.put_member.Goals as goal

pub put_4-requires : goal.put_4-requires
put_4-requires c = simp length-set (omega arith)

pub put_4-requires-2 : goal.put_4-requires-2
put_4-requires-2 c =
    let a = c.args in
    let l : length c.put_4.new.s ≡ length a.s.now = put_length c.put_4.ensures ∙ length-set a.s.now a.at 1 in
    omega arith

pub put_points-requires : goal.put_points-requires
put_points-requires c =
    let a = c.args in
    let p = c.requires in
    let l : length c.put_4-2.new.s ≡ length a.s.now =
    put_length c.put_4-2.ensures ∙ put_length c.put_4.ensures ∙ length-set a.s.now a.at 1 in
    (p.0, p.1, omega arith)

pub returns : goal.returns
returns c =
    let a = c.args in
    let p = c.requires in
    let ps = drop a.from (points_of a.x.now a.y.now) in
    let k : a.n ≤ length ps = rw (length-drop a.from (points_of a.x.now a.y.now)) (omega (arith, length_points_of a.x.now a.y.now p.0)) in
    put_line (take a.n ps) (put_one a.at 1 a.s.now (omega arith)) c.put_4.ensures c.put_4-2.ensures c.put_points.ensures
    (length-take-le a.n ps k)

pub shape_of-s : goal.shape_of-s
shape_of-s c = put_length (returns c)
