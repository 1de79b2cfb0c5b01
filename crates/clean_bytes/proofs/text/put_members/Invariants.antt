-- `clean_bytes::text::put_members` meets its contract. The invariant: the lines of the first k members are put. Assumes nothing.
use mathlib.Core.Path.{◌≡◌}
use Prim.Native.Nat.{◌≤◌}
use lib.ListN.{length}
use Rattle.report.specs.Pages.{page}
use Rattle.members.specs.Held.{sum_of}
use Rattle.clean_bytes.proofs.Texts.{MembersPut}
use Rattle.clean_bytes.proofs.text.put_members.Given as goal

abbrev pub invariant-loop-k : goal.invariant-loop-k
invariant-loop-k l = (sum_of l.lengths ≤ length l.reasons) × (length l.out ≡ length l.initial.out) × MembersPut l.lengths l.reasons l.k l.from (page l.initial.out 0) (page l.out l.at)
