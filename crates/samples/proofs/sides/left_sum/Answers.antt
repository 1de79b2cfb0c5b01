-- `samples::sides::left_sum` meets its contract. Assumes nothing.
use native.Mathlib.Omega.{arith}
use Rattle.samples.specs.Sharing.{left_sum}
use Rattle.samples.proofs.Raising.{sampled_small}
use Rattle.samples.proofs.sides.left_sum.Goals as goal

pub product-requires : goal.product-requires
product-requires c = let s = sampled_small c.args.a c.requires.a_sampled in record { a_small = s.end_x; b_small = c.requires.y_small }

pub product-requires-2 : goal.product-requires-2
product-requires-2 c = let s = sampled_small c.args.a c.requires.a_sampled in record { a_small = s.start_x; b_small = s.end_y }

pub overflow_add-result : goal.overflow_add-result
overflow_add-result c = omega (arith, c.product.ensures.most, c.product-2.ensures.most)

pub product-requires-3 : goal.product-requires-3
product-requires-3 c = let s = sampled_small c.args.a c.requires.a_sampled in record { a_small = c.requires.x_small; b_small = s.start_y }

pub overflow_add-result-2 : goal.overflow_add-result-2
overflow_add-result-2 c = omega (arith, c.product.ensures.most, c.product-2.ensures.most, c.product-3.ensures.most)

pub returns : goal.returns
unfolding left_sum
returns c = rw (c.product.ensures.is, c.product-2.ensures.is, c.product-3.ensures.is)
