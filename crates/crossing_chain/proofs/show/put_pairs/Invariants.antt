-- `crossing_chain::show::put_pairs` meets its contract. The invariant: the lines of the first i pairs are put. Assumes nothing.
use Rattle.std.proofs.Common.{◌≡◌, ◌-◌, ◌≤◌, length, take}
use Rattle.report.specs.Pages.{page, Puts}
use Rattle.crossing_chain.specs.Printed.{pair_lines}
use Rattle.crossing_chain.proofs.show.put_pairs.Given as goal

abbrev pub invariant-loop-i : goal.invariant-loop-i
invariant-loop-i l = (l.i ≤ l.n) × (l.n ≤ length l.first) × (l.n ≤ length l.second) × (length l.out ≡ length l.initial.out) × Puts (pair_lines (take l.i l.first) (take l.i l.second)) (page l.initial.out l.at-2) (page l.out l.at)
