-- `clean_bytes::text::put_member` meets its contract. The invariant: the lines of the first i points are put. Assumes nothing.
use mathlib.Core.Path.{◌≡◌}
use Prim.Native.Nat.{◌≤◌, ◌+◌}
use lib.ListN.{length}
use Rattle.report.specs.Pages.{page}
use Rattle.clean_bytes.proofs.Texts.{PointsPut}
use Rattle.clean_bytes.proofs.text.put_member.Given as goal

abbrev pub invariant-loop-i : goal.invariant-loop-i
invariant-loop-i l = (l.from + l.n ≤ length l.reasons) × (length l.out ≡ length l.initial.out) × PointsPut l.member l.reasons l.from l.n l.i (page l.initial.out l.at-2) (page l.out l.at)
