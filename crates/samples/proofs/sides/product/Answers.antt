-- `samples::sides::product` meets its contract: two raised samples have a product of at most 2^60. Assumes nothing.
use mathlib.Core.Path.{refl}
use native.Mathlib.Omega.{arith}
use Rattle.samples.proofs.Raising.{product_most}
use Rattle.samples.proofs.sides.product.Goals as goal

pub overflow_mul-result : goal.overflow_mul-result
overflow_mul-result c = let l = product_most c.args.a c.args.b c.requires.a_small c.requires.b_small in record { fits = omega arith }

pub returns : goal.returns
returns c = record { is = refl; most = product_most c.args.a c.args.b c.requires.a_small c.requires.b_small }
