-- `cost::of_globals` meets its contract. Assumes nothing.
use mathlib.Core.Path.{◌≡◌}
use native.Mathlib.Omega.{arith}
use native.Mathlib.Nat.{zero-mul}
use Rattle.seek.proofs.Lengths.{tri_zero}
use Rattle.cost.proofs.Costs.{globals_most, globals_small}
use Rattle.cost.proofs.of_globals.Goals as goal

pub returns-then-globals-eq0 : goal.returns-then-globals-eq0
returns-then-globals-eq0 c = let e : c.args.globals ≡ 0 = c.if-globals-eq0.true in rw (e, zero-mul, tri_zero)

pub overflow_mul-result : goal.overflow_mul-result
overflow_mul-result c = record { fits = omega (arith, rw (← c.wide.ensures, ← c.wide-2.ensures) at (globals_small _ _ c.requires)) }

pub overflow_sub-result : goal.overflow_sub-result
overflow_sub-result c = rw (c.triangle.ensures, c.wide.ensures, c.wide-2.ensures) (globals_most _ _ c.requires (omega arith))

pub returns : goal.returns
returns c = rw (c.triangle.ensures, c.wide.ensures, c.wide-2.ensures)
