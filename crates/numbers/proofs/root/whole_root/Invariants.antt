-- `numbers::root::whole_root` meets its contract: the root lies from r up to r + width. Assumes nothing.
use Rattle.std.proofs.Common.{◌+◌, ◌*◌, ◌<◌, ◌≤◌}
use Rattle.numbers.proofs.root.whole_root.Given as goal

abbrev pub invariant-loop-width : goal.invariant-loop-width
invariant-loop-width l = (l.r * l.r ≤ l.a) × (l.a < (l.r + l.width) * (l.r + l.width)) × (0 < l.width) × (l.r + l.width ≤ 134217728)

abbrev pub decreases-loop-width : goal.decreases-loop-width
decreases-loop-width l = l.width
