-- `wkb::members::check_members` meets its contract. The invariant: the members before `at` are right. Assumes nothing.
use Prim.Native.Nat.{◌-◌}
use Rattle.wkb.proofs.Walks.{Passed}
use Rattle.wkb.proofs.members.check_members.Given as goal

abbrev pub invariant-loop : goal.invariant-loop
invariant-loop l = Passed l.bytes l.m l.at (l.m - l.counter) l.points
