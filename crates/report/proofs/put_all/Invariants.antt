-- `report::put_all` meets its contract. The invariant: the first i bytes of the text are put. Assumes nothing.
use mathlib.Core.Path.{◌≡◌}
use Prim.Native.Nat.{◌≤◌}
use lib.ListN.{length, take}
use Rattle.report.specs.Pages.{page, Puts}
use Rattle.report.proofs.put_all.Given as goal

abbrev pub invariant-loop-b : goal.invariant-loop-b
invariant-loop-b l = (l.b-index ≤ length l.text) × (length l.out ≡ length l.initial.out) × Puts (take l.b-index l.text) (page l.initial.out l.at-2) (page l.out l.at)
