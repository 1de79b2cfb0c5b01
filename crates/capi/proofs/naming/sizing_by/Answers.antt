-- `capi::naming::sizing_by` meets its contract. Assumes nothing.
use Prim.Native.Nat.{ℕ, zero, suc}
use mathlib.Core.Path.{◌≡◌, refl}
use Rattle.sizing.specs.declared.Sizing.TheVariants.{Square, Axes}
use Rattle.capi.specs.Unknown.{sizing_by}
use Rattle.capi.proofs.naming.sizing_by.Goals as goal

first : (n : ℕ) → n ≡ 0 → Square ≡ sizing_by n
unfolding sizing_by
first n h = rw h

second : (n : ℕ) → (n ≡ 0 → ⊥) → Axes ≡ sizing_by n
unfolding sizing_by
second zero h = absurd (h refl)
second (suc n) h = refl

pub returns-then-sizing-eq0 : goal.returns-then-sizing-eq0
returns-then-sizing-eq0 c = first _ c.if-sizing-eq0.true

pub returns : goal.returns
returns c = second _ c.if-sizing-eq0.false
