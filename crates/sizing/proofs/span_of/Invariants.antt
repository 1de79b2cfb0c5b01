-- `sizing::span_of` meets its contract. The invariant: the bounds so far are those of the first i lines. Assumes nothing.
use Rattle.std.proofs.Common.{◌≡◌, ◌-◌, ◌≤◌, length}
use Rattle.sizing.specs.Bounds.{lowest, highest}
use Rattle.sizing.proofs.span_of.Given as goal

abbrev pub invariant-loop-i : goal.invariant-loop-i
invariant-loop-i l = (l.i ≤ l.n) × (l.n ≤ length l.starts) × (l.n ≤ length l.ends) × (l.low ≡ lowest l.starts l.ends l.i) × (l.high ≡ highest l.starts l.ends l.i)
