-- `numbers::root::whole_root` meets its contract: the root lies from r up to r + width. Assumes nothing.
use Rattle.std.proofs.Common.{◌≡◌, ℕ, ◌+◌, ◌-◌, ◌*◌, ◌/◌, ◌^◌, ◌<◌, ◌≤◌, subst, lt_of_le_of_lt, mul-le-mul, arith, lit<}
use Rattle.numbers.proofs.root.whole_root.Goals as goal

in_word : (r w : ℕ) → r + w ≤ 134217728 → (r + w / 2) * (r + w / 2) < 2 ^ 64
in_word r w h = lt_of_le_of_lt (mul-le-mul (less r w h) (less r w h)) (lit< tt)
  where
    less : (r w : ℕ) → r + w ≤ 134217728 → r + w / 2 ≤ 134217728
    less r w h = omega arith

whole : (r w : ℕ) → r + w ≡ r + w / 2 + (w - w / 2)
whole r w = omega arith

last : (w : ℕ) → 0 < w → w ≤ 1 → w ≡ 1
last w p q = omega arith

pub overflow_mul-t : goal.overflow_mul-t
overflow_mul-t c = record { fits = in_word c.loop-width.r c.loop-width.width c.loop-width.invariant.3 }

pub loop-width-preserved-then-t-a : goal.loop-width-preserved-then-t-a
loop-width-preserved-then-t-a c =
    let at = c.loop-width in
    (c.if-t-a.true, subst (λ (x : ℕ). c.args.a < x * x) (whole at.r at.width) at.invariant.1, omega arith, omega arith)

pub loop-width-preserved : goal.loop-width-preserved
loop-width-preserved c = (c.loop-width.invariant.0, c.if-t-a.false, omega arith, omega arith)

pub returns : goal.returns
returns c =
    let at = c.loop-width in
    (at.invariant.0, subst (λ (x : ℕ). c.args.a < (at.r + x) * (at.r + x)) (last at.width at.invariant.2 c.loop-width-test.false) at.invariant.1, omega arith)
