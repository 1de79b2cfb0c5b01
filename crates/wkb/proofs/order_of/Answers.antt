-- `wkb::order_of` meets its contract. Assumes nothing.
use mathlib.Core.Path.{◌≡◌, refl}
use Prim.Native.Nat.{ℕ, zero, suc}
use Rattle.wkb.specs.Reading.{order_of}
use Rattle.wkb.specs.declared.Order.TheVariants.{Little}
use Rattle.wkb.proofs.order_of.Goals as goal

above : (b : ℕ) → (b ≡ 0 → ⊥) → Little ≡ order_of b
unfolding order_of
above zero h = absurd (h refl)
above (suc b) h = refl

pub returns-then-b-eq0 : goal.returns-then-b-eq0
unfolding order_of
returns-then-b-eq0 c = rw c.if-b-eq0.true

pub returns-else-b-eq0 : goal.returns-else-b-eq0
returns-else-b-eq0 c = above c.args.b c.if-b-eq0.false
