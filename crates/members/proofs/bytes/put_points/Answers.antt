-- `members::bytes::put_points` meets its contract. The invariant: the bytes of the first i points stand from `at` on. Assumes nothing.
use mathlib.Core.Path.{◌≡◌, refl, ◌∙◌}
use mathlib.Core.List.{List}
use Prim.Native.Nat.{ℕ, ◌+◌, ◌*◌, ◌≤◌, ◌<◌}
use native.Mathlib.Omega.{arith}
use lib.ListN.{length, take, drop, get_or, length-drop}
use lib.Seq.{get_or-drop}
use Rattle.wkb.specs.declared.Order.TheVariants.{Little}
use Rattle.wkb.specs.Bytes.{little_bytes, points_bytes}
use Rattle.wkb.specs.Inside.{PutIn}
use Rattle.wkb.proofs.Stores.{put_none, put_length}
use Rattle.members.specs.Held.{points_of}
use Rattle.members.proofs.Held.{origin, length_points_of, point_at}
use Rattle.members.proofs.Putting.{put_point}
use Rattle.members.proofs.bytes.put_points.Invariants.{Turned}
use Rattle.members.proofs.bytes.put_points.Goals as goal

turned_none : (x y : List ℕ) (from at : ℕ) (s₀ : List ℕ) → at ≤ length s₀ → Turned x y from at s₀ s₀ 0
unfolding points_bytes
turned_none x y from at s₀ h = record { is = put_none at s₀ h }

turned_more : {x y : List ℕ} {from at : ℕ} {s₀ s s₁ s₂ : List ℕ} {i : ℕ} → Turned x y from at s₀ s i → length y ≡ length x → from + i < length x
    → PutIn (at + 16 * i) (little_bytes 8 (get_or x (from + i) 0)) s s₁ → PutIn (at + 16 * i + 8) (little_bytes 8 (get_or y (from + i) 0)) s₁ s₂ → Turned x y from at s₀ s₂ (i + 1)
turned_more {x} {y} {from} {at} {s₀} {s} {s₁} {s₂} {i} t e h p q =
    let ps = points_of x y in
    let k : i < length (drop from ps) = rw (length-drop from ps) (omega (arith, length_points_of x y e)) in
    let v : get_or (drop from ps) i origin ≡ record { x = get_or x (from + i) 0; y = get_or y (from + i) 0 } = get_or-drop from ps i origin ∙ point_at x y (from + i) e h in
    record { is = put_point i (drop from ps) t.is k v p q }

-- all points were put
ended : {x y : List ℕ} {from at : ℕ} {s₀ s : List ℕ} {i n : ℕ} → Turned x y from at s₀ s i → i ≡ n → PutIn at (points_bytes Little (take n (drop from (points_of x y)))) s₀ s
ended t e = rw (← e) t.is

pub loop-i-init : goal.loop-i-init
loop-i-init c =
    let a = c.args in
    let p = c.requires in
    (p.0, p.1, p.2, omega arith, refl, turned_none a.x.now a.y.now a.from a.at a.s.now (omega arith))

pub put_8-requires-in-loop-i : goal.put_8-requires-in-loop-i
put_8-requires-in-loop-i c = omega (arith, put_length c.put_8.ensures)

pub loop-i-preserved : goal.loop-i-preserved
loop-i-preserved c =
    let v = c.loop-i.invariant in
    let t = turned_more v.5 v.0 (omega (arith, v.1)) c.put_8.ensures c.put_8-in-loop-i.ensures in
    (v.0, v.1, v.2, omega arith, put_length t.is, t)

pub shape_of-s : goal.shape_of-s
shape_of-s c = c.loop-i.invariant.4

pub returns : goal.returns
returns c = ended {n = c.args.n} c.loop-i.invariant.5 (omega (arith, c.loop-i.invariant.3))
