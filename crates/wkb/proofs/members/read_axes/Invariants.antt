-- `wkb::members::read_axes` meets its contract. The invariant: the coordinates of the members before `at` stand at the start. Assumes nothing.
use Rattle.std.specs.Prelude.{Ok}
use mathlib.Core.Path.{◌≡◌}
use Prim.Native.Nat.{◌-◌, ◌≤◌}
use lib.ListN.{length}
use Rattle.wkb.specs.Multi.{members_check}
use Rattle.wkb.specs.Inside.{axes_at}
use Rattle.wkb.proofs.Stores.{Filling}
use Rattle.wkb.proofs.members.read_axes.Given as goal

abbrev pub invariant-loop : goal.invariant-loop
invariant-loop l = (l.skip ≤ 8) × (length (axes_at l.skip l.m 9 l.bytes) ≤ length l.initial.s) × (members_check (l.m - l.counter) l.at l.bytes ≡ (Ok tt)) × Filling 0 (axes_at l.skip l.m 9 l.bytes) (axes_at l.skip (l.m - l.counter) l.at l.bytes) l.to l.initial.s l.s
