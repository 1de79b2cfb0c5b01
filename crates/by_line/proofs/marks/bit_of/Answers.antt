-- `by_line::marks::bit_of` meets its contract. Assumes nothing.
use mathlib.Core.Path.{◌∙◌}
use native.Mathlib.Omega.{arith}
use Rattle.by_line.proofs.Bits.{one_shifted}
use Rattle.by_line.proofs.Shared.{bit_low, bit_before, bit_near, bit_far}
use Rattle.by_line.proofs.marks.bit_of.Goals as goal

pub returns-then-cell-low : goal.returns-then-cell-low
returns-then-cell-low c = bit_low _ _ _ c.if-cell-low.true

pub returns-then-cell-before : goal.returns-then-cell-before
returns-then-cell-before c = bit_before _ _ _ c.if-cell-low.false c.if-cell-before.true

pub returns-then-k-lt31 : goal.returns-then-k-lt31
returns-then-k-lt31 c = one_shifted _ (omega (arith, c.if-k-lt31.true)) ∙ bit_near _ _ _ c.if-cell-low.false c.if-cell-before.false c.if-k-lt31.true

pub returns : goal.returns
returns c = bit_far _ _ _ c.if-cell-low.false c.if-cell-before.false c.if-k-lt31.false
