-- `numbers::root::pattern_root` meets its contract. Assumes nothing.
use Rattle.std.proofs.Common.{◌≡◌, ◌*◌, ◌^◌, ◌<◌, ◌≤◌}
use Rattle.numbers.proofs.root.pattern_root.Given as goal

abbrev pub invariant-loop-m : goal.invariant-loop-m
invariant-loop-m l = (0 < l.m) × (l.m < 2 ^ 53) × (1022 ≤ l.e) × (l.e ≤ 1074) × (l.m * 2 ^ l.e ≡ l.b * 2 ^ 1074)

abbrev pub decreases-loop-m : goal.decreases-loop-m
decreases-loop-m l = l.e
