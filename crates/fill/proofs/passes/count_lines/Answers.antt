-- `fill::passes::count_lines` meets its contract. Assumes nothing.
use mathlib.Core.Path.{◌∙◌}
use Rattle.fill.proofs.Counts.{counting_all, counting_walk, counting_can, counting_most, counting_next, counting_over, counting_end}
use Rattle.fill.proofs.passes.count_lines.Goals as goal

pub loop-i-init : goal.loop-i-init
loop-i-init c = counting_all c.requires

pub walk_line-walked-requires : goal.walk_line-walked-requires
walk_line-walked-requires c = counting_walk c.loop-i.invariant c.loop-i-test.true

pub shape_of-offsets-then-walked : goal.shape_of-offsets-then-walked
shape_of-offsets-then-walked c = c.loop-i.invariant.len

pub shape_of-scratch-then-walked : goal.shape_of-scratch-then-walked
shape_of-scratch-then-walked c = c.walk_line-walked.auto.scratch ∙ c.loop-i.invariant.len_scratch

pub returns-then-walked : goal.returns-then-walked
returns-then-walked c = counting_over c.loop-i.invariant c.loop-i-test.true c.walk_line-walked.ensures c.if-walked.true

pub count_visits-globals-requires : goal.count_visits-globals-requires
count_visits-globals-requires c = counting_can c.loop-i.invariant c.loop-i-test.true c.walk_line-walked.ensures c.if-walked.false

pub overflow_add-globals : goal.overflow_add-globals
overflow_add-globals c = counting_most c.loop-i.invariant c.loop-i-test.true c.walk_line-walked.ensures c.if-walked.false c.count_visits-globals.ensures c.count_visits-globals.auto.offsets

pub loop-i-preserved : goal.loop-i-preserved
loop-i-preserved c = counting_next c.loop-i.invariant c.loop-i-test.true c.walk_line-walked.ensures c.if-walked.false c.count_visits-globals.ensures c.count_visits-globals.auto.offsets c.walk_line-walked.auto.scratch

pub shape_of-offsets : goal.shape_of-offsets
shape_of-offsets c = c.loop-i.invariant.len

pub shape_of-scratch : goal.shape_of-scratch
shape_of-scratch c = c.loop-i.invariant.len_scratch

pub returns : goal.returns
returns c = counting_end c.loop-i.invariant c.loop-i-test.false
