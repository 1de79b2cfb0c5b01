-- `capi::naming::mode_by` meets its contract. Assumes nothing.
use Prim.Native.Nat.{ℕ, zero, suc}
use mathlib.Core.Path.{◌≡◌, refl}
use Rattle.walk.specs.declared.Mode.TheVariants.{Rust, Sided, Covering}
use Rattle.capi.specs.Unknown.{mode_by}
use Rattle.capi.proofs.naming.mode_by.Goals as goal

first : (n : ℕ) → n ≡ 0 → Rust ≡ mode_by n
unfolding mode_by
first n h = rw h

second : (n : ℕ) → n ≡ 1 → Sided ≡ mode_by n
unfolding mode_by
second n h = rw h

third : (n : ℕ) → (n ≡ 0 → ⊥) → (n ≡ 1 → ⊥) → Covering ≡ mode_by n
unfolding mode_by
third zero h k = absurd (h refl)
third (suc zero) h k = absurd (k refl)
third (suc (suc n)) h k = refl

pub returns-then-mode-eq0 : goal.returns-then-mode-eq0
returns-then-mode-eq0 c = first _ c.if-mode-eq0.true

pub returns-then-mode-eq1 : goal.returns-then-mode-eq1
returns-then-mode-eq1 c = second _ c.if-mode-eq1.true

pub returns : goal.returns
returns c = third _ c.if-mode-eq0.false c.if-mode-eq1.false
