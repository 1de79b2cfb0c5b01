-- `wkb::members::read_numbers` meets its contract. The invariant: the coordinates of the first i points stand from `to` on. Assumes nothing.
use mathlib.Core.Path.{◌≡◌, refl, sym, ap}
use mathlib.Core.List.{List}
use Prim.Native.Nat.{ℕ, ◌+◌, ◌*◌, ◌≤◌, ◌<◌}
use native.Mathlib.Omega.{arith}
use lib.ListN.{length, set}
use Rattle.wkb.specs.Bytes.{number_at}
use Rattle.wkb.specs.Inside.{numbers_at, PutIn}
use Rattle.wkb.specs.declared.Order.{Order}
use Rattle.wkb.proofs.Axes.{length_numbers, axis_more}
use Rattle.wkb.proofs.Stores.{put_none, put_more, put_length}
use Rattle.wkb.proofs.members.read_numbers.Invariants.{Turned}
use Rattle.wkb.proofs.members.read_numbers.Goals as goal

turned_none : (bs : List ℕ) (at : ℕ) (o : Order) (to : ℕ) (s₀ : List ℕ) → to ≤ length s₀ → Turned bs at o to s₀ s₀ 0
unfolding numbers_at
turned_none bs at o to s₀ h = record { is = put_none to s₀ h }

turned_more : {bs : List ℕ} {at : ℕ} {o : Order} {to : ℕ} {s₀ s : List ℕ} {i v : ℕ} → Turned bs at o to s₀ s i → to + i < length s₀ → v ≡ number_at o 8 (at + 16 * i) bs → Turned bs at o to s₀ (set s (to + i) v) (i + 1)
turned_more {bs} {at} {o} {to} {s₀} {s} {i} {v} t l e =
    let p : PutIn to (numbers_at o (i + 1) at bs) s₀ (set s (to + i) (number_at o 8 (at + 16 * i) bs)) =
    rw (← axis_more o bs i at) (put_more _ t.is (ap (λ (k : ℕ). to + k) (sym (length_numbers o bs i at))) l) in
    record { is = rw e p }

-- all points were read
ended : {bs : List ℕ} {at : ℕ} {o : Order} {to : ℕ} {s₀ s : List ℕ} {i n : ℕ} → Turned bs at o to s₀ s i → i ≡ n → PutIn to (numbers_at o n at bs) s₀ s
ended t e = rw (← e) t.is

pub loop-i-init : goal.loop-i-init
loop-i-init c =
    let a = c.args in
    (omega arith, omega arith, omega arith, refl, turned_none a.bytes.now a.at a.order a.to a.s.now (omega arith))

pub loop-i-preserved : goal.loop-i-preserved
loop-i-preserved c =
    let v = c.loop-i.invariant in
    let t = turned_more v.4 (omega arith) c.number_at_8.ensures in
    (v.0, v.1, omega arith, put_length t.is, t)

pub shape_of-s : goal.shape_of-s
shape_of-s c = c.loop-i.invariant.3

pub returns : goal.returns
returns c = ended c.loop-i.invariant.4 (omega arith)
