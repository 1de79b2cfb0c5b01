-- `members::bytes::put_members` meets its contract. The invariant: the bytes of the first k members, with `from` points, stand from byte 9 on.
-- Assumes nothing.
use mathlib.Core.Path.{◌≡◌, sym, ◌∙◌}
use mathlib.Core.List.{List}
use Prim.Native.Nat.{ℕ, ◌+◌, ◌*◌, ◌≤◌, ◌<◌}
use native.Mathlib.Omega.{arith}
use lib.ListN.{length, take, drop, get_or, length-drop}
use lib.Seq.{length-take-le}
use Rattle.wkb.specs.declared.Order.TheVariants.{Little}
use Rattle.wkb.specs.Bytes.{line_bytes}
use Rattle.wkb.specs.Inside.{PutIn}
use Rattle.wkb.proofs.LineStrings.{length_line}
use Rattle.wkb.proofs.Stores.{fill_none, fill_length, fill_room, fill_more, fill_all}
use Rattle.members.specs.Held.{points_of}
use Rattle.members.proofs.Held.{held_says, length_points_of}
use Rattle.members.proofs.Along.{along_none, along_next, along_more, Fitting}
use Rattle.members.proofs.Putting.{bytes_next, bytes_over}
use Rattle.members.proofs.bytes.put_members.Invariants.{Turned, left}
use Rattle.members.proofs.bytes.put_members.Goals as goal

-- the next member has n points
module _ {x y ns s₀ s : List ℕ} {at from k : ℕ} (t : Turned x y ns s₀ s at from k) (h : k < length ns) (n : ℕ) (e : n ≡ get_or ns k 0) where
  fitting : Fitting (length x) from n
  fitting = along_next t.along h n e

  length_next : 9 + 16 * n ≡ length (line_bytes Little (take n (drop from (points_of x y))))
  length_next =
      let ps = points_of x y in
      let k : n ≤ length (drop from ps) = rw (length-drop from ps) (omega (arith, length_points_of x y t.alike, fitting.within)) in
      sym (length_line Little (take n (drop from ps)) ∙ rw (length-take-le n (drop from ps) k))

  room_next : at + 9 + 16 * n ≤ length s
  room_next = let r = fill_room t.filled (line_bytes Little (take n (drop from (points_of x y)))) _ (bytes_next ns k from (points_of x y) n h e) t.room in omega (arith, length_next)

  turned_more : {s₁ : List ℕ} → PutIn at (line_bytes Little (take n (drop from (points_of x y)))) s s₁ → Turned x y ns s₀ s₁ (at + 9 + 16 * n) (from + n) (k + 1)
  turned_more p = record {
    alike = t.alike;
    along = along_more t.along h n e;
    room = t.room;
    filled =
        let to : at + (9 + 16 * n) ≡ at + 9 + 16 * n = omega arith in
        rw to at (fill_more t.filled (bytes_next ns k from (points_of x y) n h e) p length_next);
  }

pub loop-length-init : goal.loop-length-init
loop-length-init c =
    let a = c.args in
    let p = c.requires in
    let h = held_says (length a.x.now) (length a.y.now) a.lengths.now p.0 in
    record {
      alike = h.alike;
      along = along_none a.lengths.now (length a.x.now) h.each h.sum;
      room = p.1;
      filled = fill_none 9 (left a.x.now a.y.now a.lengths.now 0 0) a.s.now (omega arith);
    }

pub put_member-requires : goal.put_member-requires
put_member-requires c =
    let fitting_at : Fitting (length c.args.x.now) c.loop-length.from c.wide-n.result = fitting c.loop-length.invariant c.loop-length-test.true c.wide-n.result c.wide-n.ensures in
    let room_at : c.loop-length.at + 9 + 16 * c.wide-n.result ≤ length c.loop-length.s = room_next c.loop-length.invariant c.loop-length-test.true c.wide-n.result c.wide-n.ensures in
    let f = fitting_at in
    let r = room_at in
    (c.loop-length.invariant.alike, f.within, omega arith)

pub overflow_add-at : goal.overflow_add-at
overflow_add-at c =
    let room_at : c.loop-length.at + 9 + 16 * c.wide-n.result ≤ length c.loop-length.s = room_next c.loop-length.invariant c.loop-length-test.true c.wide-n.result c.wide-n.ensures in
    let r = room_at in omega (arith, fill_length c.loop-length.invariant.filled)

pub overflow_mul-at : goal.overflow_mul-at
overflow_mul-at c =
    let room_at : c.loop-length.at + 9 + 16 * c.wide-n.result ≤ length c.loop-length.s = room_next c.loop-length.invariant c.loop-length-test.true c.wide-n.result c.wide-n.ensures in
    let r = room_at in omega (arith, fill_length c.loop-length.invariant.filled)

pub overflow_add-at-in-loop-length : goal.overflow_add-at-in-loop-length
overflow_add-at-in-loop-length c =
    let room_at : c.loop-length.at + 9 + 16 * c.wide-n.result ≤ length c.loop-length.s = room_next c.loop-length.invariant c.loop-length-test.true c.wide-n.result c.wide-n.ensures in
    let r = room_at in omega (arith, fill_length c.loop-length.invariant.filled)

pub overflow_add-from : goal.overflow_add-from
overflow_add-from c =
    let fitting_at : Fitting (length c.args.x.now) c.loop-length.from c.wide-n.result = fitting c.loop-length.invariant c.loop-length-test.true c.wide-n.result c.wide-n.ensures in
    let f = fitting_at in omega arith

pub loop-length-preserved : goal.loop-length-preserved
loop-length-preserved c = turned_more c.loop-length.invariant c.loop-length-test.true c.wide-n.result c.wide-n.ensures c.put_member.ensures

pub shape_of-s : goal.shape_of-s
shape_of-s c = fill_length c.loop-length.invariant.filled

pub returns : goal.returns
returns c =
    let a = c.args in
    let l = c.loop-length in
    fill_all l.invariant.filled (bytes_over a.lengths.now l.length-index (drop l.from (points_of a.x.now a.y.now)) c.loop-length-test.false)
