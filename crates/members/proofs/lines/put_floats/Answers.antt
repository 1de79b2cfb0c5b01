-- `members::lines::put_floats` meets its contract. The invariant: the floats of the first i patterns stand from `to` on. Assumes nothing.
use mathlib.Core.Path.{◌≡◌, refl, sym, ap, ◌∙◌}
use mathlib.Core.List.{List, [], ◌∷◌, ◌++◌, map, map-append}
use Prim.Native.Nat.{ℕ, ◌+◌, ◌≤◌, ◌<◌}
use native.Mathlib.Numerals.{add-one}
use native.Mathlib.Omega.{arith}
use lib.Ieee.{Float, binary64, of_bits}
use lib.ListN.{length, take, drop, get_or, set, length-map, length-drop}
use lib.Seq.{take-suc, length-take-le, get_or-drop}
use Rattle.wkb.specs.Inside.{PutIn}
use Rattle.wkb.proofs.Stores.{put_none, put_more, put_length}
use Rattle.members.proofs.lines.put_floats.Invariants.{Turned}
use Rattle.members.proofs.lines.put_floats.Goals as goal

turned_none : (from : List ℕ) (at to : ℕ) (s₀ : List Float) → to ≤ length s₀ → Turned from at to s₀ s₀ 0
turned_none from at to s₀ h = record { is = put_none to s₀ h }

turned_more : {from : List ℕ} {at to : ℕ} {s₀ s : List Float} {i : ℕ} {v : Float} → Turned from at to s₀ s i → at + i < length from → to + i < length s₀ → v ≡ of_bits binary64 (get_or from (at + i) 0)
    → Turned from at to s₀ (set s (to + i) v) (i + 1)
turned_more {from} {at} {to} {s₀} {s} {i} {v} t h l e =
    let k : i < length (drop at from) = rw (length-drop at from) (omega arith) in
    let f = of_bits binary64 in
    let next : map f (take (i + 1) (drop at from)) ≡ map f (take i (drop at from)) ++ (v ∷ []) =
    rw (add-one i, take-suc (drop at from) i 0 k, map-append f (take i (drop at from)) _, get_or-drop at from i 0, e) in
    let n : length (map f (take i (drop at from))) ≡ i = length-map (take i (drop at from)) f ∙ length-take-le i (drop at from) (omega arith) in
    record { is = rw next (put_more v t.is (ap (λ (j : ℕ). to + j) (sym n)) l) }

-- all patterns were taken
ended : {from : List ℕ} {at to : ℕ} {s₀ s : List Float} {i n : ℕ} → Turned from at to s₀ s i → i ≡ n → PutIn to (map (of_bits binary64) (take n (drop at from))) s₀ s
ended t e = rw (← e) t.is

pub loop-i-init : goal.loop-i-init
loop-i-init c =
    let a = c.args in
    (omega arith, omega arith, omega arith, refl, turned_none a.from.now a.at a.to a.s.now (omega arith))

pub loop-i-preserved : goal.loop-i-preserved
loop-i-preserved c =
    let v = c.loop-i.invariant in
    let t = turned_more v.4 (omega (arith, v.0)) (omega (arith, v.1)) c.from_bits.ensures in
    (v.0, v.1, omega arith, put_length t.is, t)

pub shape_of-s : goal.shape_of-s
shape_of-s c = c.loop-i.invariant.3

pub returns : goal.returns
returns c = ended {n = c.args.n} c.loop-i.invariant.4 (omega (arith, c.loop-i.invariant.2))
