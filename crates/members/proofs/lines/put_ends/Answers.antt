-- `members::lines::put_ends` meets its contract. The invariant: the ends of the lines of the first k members, with `at` points, stand at the start.
-- Assumes nothing.
use mathlib.Core.Path.{◌≡◌, sym, ◌∙◌}
use mathlib.Core.List.{List, map}
use Prim.Native.Nat.{ℕ, ◌+◌, ◌-◌, ◌≤◌, ◌<◌}
use native.Mathlib.Omega.{arith}
use lib.Ieee.{Float, binary64, of_bits}
use lib.ListN.{length, take, drop, get_or, length-map}
use Rattle.wkb.specs.Inside.{PutIn}
use Rattle.wkb.specs.Reading.{nought}
use Rattle.wkb.proofs.Stores.{fill_none, fill_length, fill_room, fill_more, fill_cleared}
use Rattle.members.specs.Inside.{ends_at, floats_at}
use Rattle.members.proofs.Along.{along_none, along_next, along_more, Fitting, floats_next, floats_over, floats_count}
use Rattle.members.proofs.lines.put_ends.Invariants.{Turned, left}
use Rattle.members.proofs.lines.put_ends.Goals as goal

-- the next member has n points
module _ {cs ns : List ℕ} {skip : ℕ} {s₀ s : List Float} {at to k : ℕ} (t : Turned cs ns skip s₀ s at to k) (h : k < length ns) (n : ℕ) (e : n ≡ get_or ns k 0) where
  fitting : Fitting (length cs) at n
  fitting = along_next t.along h n e

  length_next : length (map (of_bits binary64) (take (n - 1) (drop (at + skip) cs))) ≡ n - 1
  length_next = floats_count (of_bits binary64) skip ns k at cs n t.one fitting

  room_next : to + (n - 1) ≤ length s
  room_next =
      let r = fill_room t.filled (map (of_bits binary64) (take (n - 1) (drop (at + skip) cs))) _ (floats_next (of_bits binary64) skip ns k at cs n h e) t.room in
      omega (arith, length_next)

  turned_more : {s₁ : List Float} → PutIn to (map (of_bits binary64) (take (n - 1) (drop (at + skip) cs))) s s₁ → Turned cs ns skip s₀ s₁ (at + n) (to + (n - 1)) (k + 1)
  turned_more p = record {
    along = along_more t.along h n e;
    one = t.one;
    room = t.room;
    filled = fill_more t.filled (floats_next (of_bits binary64) skip ns k at cs n h e) p (sym length_next);
  }

pub loop-length-init : goal.loop-length-init
loop-length-init c =
    let a = c.args in
    let p = c.requires in
    record {
      along = along_none a.lengths.now (length a.from.now) p.1 p.2;
      one = p.0;
      room = omega (arith, p.3, length-map (ends_at a.skip a.lengths.now a.from.now) (of_bits binary64));
      filled = fill_none 0 (left a.from.now a.lengths.now a.skip 0 0) a.s.now (omega arith);
    }

pub overflow_add-at : goal.overflow_add-at
overflow_add-at c =
    let fitting_at : Fitting (length c.args.from.now) c.loop-length.at c.wide-n.result = fitting c.loop-length.invariant c.loop-length-test.true c.wide-n.result c.wide-n.ensures in
    let f = fitting_at in omega (arith, c.loop-length.invariant.one)

pub overflow_sub-n : goal.overflow_sub-n
overflow_sub-n c =
    let fitting_at : Fitting (length c.args.from.now) c.loop-length.at c.wide-n.result = fitting c.loop-length.invariant c.loop-length-test.true c.wide-n.result c.wide-n.ensures in
    let f = fitting_at in omega arith

pub put_floats-requires : goal.put_floats-requires
put_floats-requires c =
    let fitting_at : Fitting (length c.args.from.now) c.loop-length.at c.wide-n.result = fitting c.loop-length.invariant c.loop-length-test.true c.wide-n.result c.wide-n.ensures in
    let room_at : c.loop-length.to + (c.wide-n.result - 1) ≤ length c.loop-length.s = room_next c.loop-length.invariant c.loop-length-test.true c.wide-n.result c.wide-n.ensures in
    let f = fitting_at in
    let r = room_at in
    (omega (arith, c.loop-length.invariant.one), omega arith)

pub overflow_add-at-in-loop-length : goal.overflow_add-at-in-loop-length
overflow_add-at-in-loop-length c =
    let fitting_at : Fitting (length c.args.from.now) c.loop-length.at c.wide-n.result = fitting c.loop-length.invariant c.loop-length-test.true c.wide-n.result c.wide-n.ensures in
    let f = fitting_at in omega arith

pub overflow_sub-to : goal.overflow_sub-to
overflow_sub-to c =
    let fitting_at : Fitting (length c.args.from.now) c.loop-length.at c.wide-n.result = fitting c.loop-length.invariant c.loop-length-test.true c.wide-n.result c.wide-n.ensures in
    let f = fitting_at in omega arith

pub overflow_add-to : goal.overflow_add-to
overflow_add-to c =
    let room_at : c.loop-length.to + (c.wide-n.result - 1) ≤ length c.loop-length.s = room_next c.loop-length.invariant c.loop-length-test.true c.wide-n.result c.wide-n.ensures in
    let r = room_at in omega (arith, fill_length c.loop-length.invariant.filled)

pub loop-length-preserved : goal.loop-length-preserved
loop-length-preserved c = turned_more c.loop-length.invariant c.loop-length-test.true c.wide-n.result c.wide-n.ensures c.put_floats.ensures

pub shape_of-s : goal.shape_of-s
shape_of-s c = c.zero_from.auto.s ∙ fill_length c.loop-length.invariant.filled

pub returns : goal.returns
unfolding floats_at
returns c =
    let a = c.args in
    fill_cleared nought c.loop-length.invariant.filled (floats_over (of_bits binary64) a.skip a.lengths.now c.loop-length.length-index c.loop-length.at a.from.now c.loop-length-test.false) c.zero_from.ensures
