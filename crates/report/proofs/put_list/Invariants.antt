-- `report::put_list` meets its contract. The invariant: the first i numbers of the list are put. Assumes nothing.
use mathlib.Core.Path.{◌≡◌}
use Prim.Native.Nat.{◌≤◌}
use lib.ListN.{length, take}
use Rattle.report.specs.Pages.{page, Puts}
use Rattle.report.specs.Lines.{spaced}
use Rattle.report.proofs.put_list.Given as goal

abbrev pub invariant-loop-line : goal.invariant-loop-line
invariant-loop-line l = (l.line-index ≤ length l.list) × (length l.out ≡ length l.initial.out) × Puts (spaced (take l.line-index l.list)) (page l.initial.out l.at-2) (page l.out l.at)
