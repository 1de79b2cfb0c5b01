-- `wkb::read_axis` meets its contract. The invariant: the coordinates of the first i points stand at the start. Assumes nothing.
use mathlib.Core.Path.{◌≡◌, refl, sym, ap, ◌∙◌}
use mathlib.Core.List.{List, [], ◌∷◌, map, ◌++◌, map-append}
use Prim.Native.Nat.{ℕ, ◌+◌, ◌*◌, ◌-◌, ◌<◌}
use native.Mathlib.Omega.{arith}
use lib.Ieee.{Float, binary64, of_bits}
use lib.ListN.{length, take, set, replicate, length-map}
use Rattle.refusals.specs.Refusals.{zero_beyond}
use Rattle.wkb.specs.Bytes.{number_at}
use Rattle.wkb.specs.Inside.{numbers_at, PutIn}
use Rattle.wkb.specs.Reading.{nought}
use Rattle.wkb.specs.declared.Order.{Order}
use Rattle.wkb.proofs.Axes.{length_numbers, axis_more}
use Rattle.wkb.proofs.Stores.{put_none, put_more, put_length, put_cleared}
use Rattle.wkb.proofs.read_axis.Invariants.{Turned}
use Rattle.wkb.proofs.read_axis.Goals as goal

turned_none : (bs : List ℕ) (at : ℕ) (o : Order) (s₀ : List Float) → Turned bs at o s₀ s₀ 0
unfolding numbers_at
turned_none bs at o s₀ = record { is = put_none 0 s₀ (omega arith) }

count : (o : Order) (bs : List ℕ) (at i : ℕ) → length (map (of_bits binary64) (numbers_at o i at bs)) ≡ i
count o bs at i = length-map (numbers_at o i at bs) (of_bits binary64) ∙ length_numbers o bs i at

turned_more : {bs : List ℕ} {at : ℕ} {o : Order} {s₀ s : List Float} {i v : ℕ} {r : Float} → Turned bs at o s₀ s i → i < length s₀ → v ≡ number_at o 8 (at + 16 * i) bs → r ≡ of_bits binary64 v → Turned bs at o s₀ (set s i r) (i + 1)
turned_more {bs} {at} {o} {s₀} {s} {i} t l e f =
    let m : map (of_bits binary64) (numbers_at o i at bs) ++ (of_bits binary64 (number_at o 8 (at + 16 * i) bs) ∷ []) ≡ map (of_bits binary64) (numbers_at o (i + 1) at bs) =
    sym (map-append (of_bits binary64) (numbers_at o i at bs) _) ∙ ap (map (of_bits binary64)) (axis_more o bs i at) in
    record { is = rw (f, e, ← m) (put_more _ t.is (omega (arith, count o bs at i)) l) }

-- zeros beyond the last point
ended : {bs : List ℕ} {at : ℕ} {o : Order} {s₀ s t : List Float} {i n : ℕ} → Turned bs at o s₀ s i → i ≡ n → t ≡ take n s ++ replicate (length s - n) nought → t ≡ zero_beyond nought (length s₀) (map (of_bits binary64) (numbers_at o n at bs))
ended {bs} {at} {o} {s₀} {s} {t} {i} {n} w e z =
    let p : PutIn 0 (map (of_bits binary64) (numbers_at o n at bs)) s₀ s = rw (← e) w.is in
    put_cleared nought p (sym (count o bs at n)) z

pub loop-i-init : goal.loop-i-init
loop-i-init c =
    let a = c.args in
    (omega arith, omega arith, omega arith, refl, turned_none a.bytes.now a.at a.order a.s.now)

pub loop-i-preserved : goal.loop-i-preserved
loop-i-preserved c =
    let v = c.loop-i.invariant in
    let t = turned_more v.4 (omega arith) c.number_at_8.ensures c.from_bits.ensures in
    (v.0, v.1, omega arith, put_length t.is, t)

pub shape_of-s : goal.shape_of-s
shape_of-s c = c.zero_from.auto.s ∙ c.loop-i.invariant.3

pub returns : goal.returns
returns c =
    let l = c.loop-i in
    ended l.invariant.4 (omega arith) c.zero_from.ensures
