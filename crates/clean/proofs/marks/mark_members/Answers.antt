-- `clean::marks::mark_members` meets its contract. The invariant: the first k members, with `from` points, are marked. Assumes nothing.
use mathlib.Core.Path.{◌∙◌}
use native.Mathlib.Omega.{arith}
use Rattle.wkb.proofs.Stores.{fill_length}
use Rattle.members.proofs.Held.{held_says}
use Rattle.clean.proofs.Walking.{walked_none, walked_fitting, walked_lies, walked_room, walked_more, walked_all}
use Rattle.clean.proofs.marks.mark_members.Goals as goal

pub loop-length-init : goal.loop-length-init
loop-length-init c = let p = c.requires in walked_none (held_says _ _ _ p.0) p.1

pub overflow_add-from : goal.overflow_add-from
overflow_add-from c = let f = walked_fitting c.loop-length.invariant c.loop-length-test.true c.wide-n.result c.wide-n.ensures in omega (arith, f.within)

pub mark_member-at-requires : goal.mark_member-at-requires
mark_member-at-requires c =
    let f = walked_fitting c.loop-length.invariant c.loop-length-test.true c.wide-n.result c.wide-n.ensures in
    (walked_lies c.loop-length.invariant c.loop-length-test.true c.wide-n.result c.wide-n.ensures, omega (arith, f.most), walked_room c.loop-length.invariant c.loop-length-test.true c.wide-n.result c.wide-n.ensures)

pub overflow_add-from-in-loop-length : goal.overflow_add-from-in-loop-length
overflow_add-from-in-loop-length c = let f = walked_fitting c.loop-length.invariant c.loop-length-test.true c.wide-n.result c.wide-n.ensures in omega (arith, f.within)

pub loop-length-preserved : goal.loop-length-preserved
loop-length-preserved c = walked_more c.loop-length.invariant c.loop-length-test.true c.wide-n.result c.wide-n.ensures c.mark_member-at.ensures

pub shape_of-reasons : goal.shape_of-reasons
shape_of-reasons c = c.clear_from.auto.s ∙ fill_length c.loop-length.invariant.whys

pub shape_of-kept_lengths : goal.shape_of-kept_lengths
shape_of-kept_lengths c = c.clear_from-2.auto.s ∙ fill_length c.loop-length.invariant.lens

pub returns : goal.returns
returns c = walked_all c.loop-length.invariant c.loop-length-test.false c.clear_from.ensures c.clear_from-2.ensures
