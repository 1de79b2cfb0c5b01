-- The checks that come once something may be written refuse by numbers that clear: 4 and 7 at each grid tried, then 5 and 6. Assumes nothing.
use Prim.Native.Nat.{ℕ}
use mathlib.Core.Bool.{true}
use native.Mathlib.Omega.{arith}
use lib.Dec.{leb}
use lib.ListN.{length}
use Rattle.refusals.proofs.Leaving.{Clearing, clearing_unless, clearing_then, clearing_each, numbers_clear}
use Rattle.grid.specs.declared.Grid.{Grid}
use Rattle.grid.specs.Domain.{Lines, count}
use Rattle.walk.specs.declared.Mode.{Mode}
use Rattle.fill.specs.OnGrid.{walk_on, completes, globals_on, total}
use Rattle.fill.specs.Checks.{room_check, turns_check, tried_check, space_check}

pub turns_clear : (mode : Mode) (g : Grid) (ls : Lines) → Clearing true (turns_check mode g ls)
unfolding turns_check
turns_clear mode g ls = clearing_each (λ i. completes (walk_on mode g ls i)) 7 (count ls) 0 (numbers_clear 7 (omega arith) (omega arith))

pub tried_clears : (mode : Mode) (g : Grid) (ls : Lines) (room : ℕ) → Clearing true (tried_check mode g ls room)
unfolding tried_check room_check
tried_clears mode g ls room =
    clearing_then (clearing_unless _ 4 _ (numbers_clear 4 (omega arith) (omega arith))) (turns_clear mode g ls)

pub space_clears : (mode : Mode) (g : Grid) (ls : Lines) (items globals : ℕ) → Clearing true (space_check mode g ls items globals)
unfolding space_check
space_clears mode g ls items globals =
    clearing_then (clearing_unless (leb (total mode g ls) items) 5 (total mode g ls) (numbers_clear 5 (omega arith) (omega arith)))
    (clearing_unless (leb (length (globals_on mode g ls)) globals) 6 (length (globals_on mode g ls)) (numbers_clear 6 (omega arith) (omega arith)))
