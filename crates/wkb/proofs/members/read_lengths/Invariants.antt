-- `wkb::members::read_lengths` meets its contract. The invariant: the numbers of points of the members before `at` stand at the start.
-- Assumes nothing.
use Rattle.std.specs.Prelude.{Ok}
use mathlib.Core.Path.{◌≡◌}
use Prim.Native.Nat.{◌-◌, ◌≤◌}
use lib.ListN.{length}
use Rattle.wkb.specs.Multi.{members_check}
use Rattle.wkb.specs.Inside.{counts_at}
use Rattle.wkb.proofs.Stores.{Filling}
use Rattle.wkb.proofs.members.read_lengths.Given as goal

abbrev pub invariant-loop-to : goal.invariant-loop-to
invariant-loop-to l = (length (counts_at l.m 9 l.bytes) ≤ length l.initial.s) × (members_check (l.m - l.to) l.at l.bytes ≡ (Ok tt)) × Filling 0 (counts_at l.m 9 l.bytes) (counts_at (l.m - l.to) l.at l.bytes) l.to l.initial.s l.s
