-- `seek::bookmarks::triangle` meets its contract. Assumes nothing.
use mathlib.Core.Path.{ap, ◌∙◌}
use Prim.Native.Nat.{◌≤◌}
use native.Mathlib.Omega.{arith}
use native.Mathlib.Nat.{mul-le-mul_left}
use Rattle.seek.specs.Inside.{tri}
use Rattle.seek.proofs.Lengths.{tri_twice, tri_is}
use Rattle.seek.proofs.bookmarks.triangle.Goals as goal

pub overflow_mul-result : goal.overflow_mul-result
overflow_mul-result c = let w = c.from-w.result in let h : w ≤ 4294967296 = omega arith in omega (arith, mul-le-mul_left w h)

pub overflow_sub-result : goal.overflow_sub-result
overflow_sub-result c = omega (arith, tri_twice c.from-w.result)

pub returns : goal.returns
returns c = tri_is c.from-w.result ∙ ap tri c.from-w.ensures
