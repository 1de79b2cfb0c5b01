-- `samples::sides::both_aside` meets its contract. Assumes nothing.
use Rattle.samples.specs.Sharing.{aside}
use Rattle.samples.proofs.Raising.{sampled_small}
use Rattle.samples.proofs.sides.both_aside.Goals as goal

pub left_sum-l1-requires : goal.left_sum-l1-requires
left_sum-l1-requires c = let s = sampled_small c.args.b c.requires.b_sampled in record { a_sampled = c.requires.a_sampled; x_small = s.start_x; y_small = s.start_y }

pub right_sum-r1-requires : goal.right_sum-r1-requires
right_sum-r1-requires c = let s = sampled_small c.args.b c.requires.b_sampled in record { a_sampled = c.requires.a_sampled; x_small = s.start_x; y_small = s.start_y }

pub left_sum-l2-requires : goal.left_sum-l2-requires
left_sum-l2-requires c = let s = sampled_small c.args.b c.requires.b_sampled in record { a_sampled = c.requires.a_sampled; x_small = s.end_x; y_small = s.end_y }

pub right_sum-r2-requires : goal.right_sum-r2-requires
right_sum-r2-requires c = let s = sampled_small c.args.b c.requires.b_sampled in record { a_sampled = c.requires.a_sampled; x_small = s.end_x; y_small = s.end_y }

pub returns : goal.returns
unfolding aside
returns c = rw (c.left_sum-l1.ensures, c.right_sum-r1.ensures, c.left_sum-l2.ensures, c.right_sum-r2.ensures)
