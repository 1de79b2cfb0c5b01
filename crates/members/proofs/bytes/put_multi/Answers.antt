-- `members::bytes::put_multi` meets its contract: a byte, two numbers and the members, one after another. Assumes nothing.
use mathlib.Core.Path.{◌≡◌, ◌∙◌}
use Prim.Native.Nat.{◌+◌, ◌≤◌}
use native.Mathlib.Omega.{arith}
use mathlib.Core.List.{flat_map}
use lib.ListN.{length, length-set}
use Rattle.wkb.specs.declared.Order.TheVariants.{Little}
use Rattle.wkb.specs.Bytes.{line_bytes}
use Rattle.wkb.proofs.Stores.{put_one, put_length}
use Rattle.members.specs.Held.{points_of, chains_of}
use Rattle.members.proofs.Held.{length_chains_of}
use Rattle.members.proofs.Putting.{length_parts, put_multi}
use Rattle.members.proofs.bytes.put_multi.Goals as goal

pub bounds-s-0 : goal.bounds-s-0
bounds-s-0 c =
    let room : let a = c.args in 9 + length (flat_map (line_bytes Little) (chains_of a.lengths.now (points_of a.x.now a.y.now))) ≤ length a.s.now =
    let a = c.args in
    let n = length_parts (chains_of a.lengths.now (points_of a.x.now a.y.now)) in
    omega (arith, c.requires.1) in
    let r = room in omega arith

pub put_4-requires : goal.put_4-requires
put_4-requires c =
    let room : let a = c.args in 9 + length (flat_map (line_bytes Little) (chains_of a.lengths.now (points_of a.x.now a.y.now))) ≤ length a.s.now =
    let a = c.args in
    let n = length_parts (chains_of a.lengths.now (points_of a.x.now a.y.now)) in
    omega (arith, c.requires.1) in
    let a = c.args in
    let r = room in
    let l = length-set a.s.now 0 1 in
    omega arith

pub put_4-requires-2 : goal.put_4-requires-2
put_4-requires-2 c =
    let room : let a = c.args in 9 + length (flat_map (line_bytes Little) (chains_of a.lengths.now (points_of a.x.now a.y.now))) ≤ length a.s.now =
    let a = c.args in
    let n = length_parts (chains_of a.lengths.now (points_of a.x.now a.y.now)) in
    omega (arith, c.requires.1) in
    let a = c.args in
    let r = room in
    let l : length c.put_4.new.s ≡ length a.s.now = put_length c.put_4.ensures ∙ length-set a.s.now 0 1 in
    omega arith

pub put_members-requires : goal.put_members-requires
put_members-requires c =
    let room : let a = c.args in 9 + length (flat_map (line_bytes Little) (chains_of a.lengths.now (points_of a.x.now a.y.now))) ≤ length a.s.now =
    let a = c.args in
    let n = length_parts (chains_of a.lengths.now (points_of a.x.now a.y.now)) in
    omega (arith, c.requires.1) in
    let a = c.args in
    let p = c.requires in
    let r = room in
    let l : length c.put_4-2.new.s ≡ length a.s.now =
    put_length c.put_4-2.ensures ∙ put_length c.put_4.ensures ∙ length-set a.s.now 0 1 in
    (p.0, omega arith)

pub returns : goal.returns
returns c =
    let room : let a = c.args in 9 + length (flat_map (line_bytes Little) (chains_of a.lengths.now (points_of a.x.now a.y.now))) ≤ length a.s.now =
    let a = c.args in
    let n = length_parts (chains_of a.lengths.now (points_of a.x.now a.y.now)) in
    omega (arith, c.requires.1) in
    let a = c.args in
    let pss = chains_of a.lengths.now (points_of a.x.now a.y.now) in
    let r = room in
    put_multi pss (put_one 0 1 a.s.now (omega arith)) c.put_4.ensures c.put_4-2.ensures c.put_members.ensures (length_chains_of a.lengths.now (points_of a.x.now a.y.now))

pub shape_of-s : goal.shape_of-s
shape_of-s c = put_length (returns c)
