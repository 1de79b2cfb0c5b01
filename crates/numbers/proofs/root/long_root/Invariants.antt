-- `numbers::root::long_root` meets its contract: what is left is a * 4 ^ i without the square, and at most twice the root. Assumes nothing.
use Rattle.std.proofs.Common.{◌≡◌, ◌+◌, ◌*◌, ◌^◌, ◌<◌, ◌≤◌}
use Rattle.numbers.proofs.root.long_root.Given as goal

abbrev pub invariant-loop-i : goal.invariant-loop-i
invariant-loop-i l = (l._i ≤ 27) × (l.r * l.r + l.rest ≡ l.a * 4 ^ l._i) × (l.rest ≤ 2 * l.r) × (l.r < 2 ^ 54)
