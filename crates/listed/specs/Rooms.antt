-- Boxes in a room: 513 numbers for each of their four, one part after another. Definitions only.
use Rattle.std.specs.Prelude.{ℕ, zero, suc, ◌+◌, ◌≤◌, Bool, true, cond, ◌&&◌, List, length, get_or, leb, Float}
use Rattle.std.specs.Float.{nan}
use Rattle.std.specs.Float.Ieee.{le}
use Rattle.grid.specs.declared.Box.{Box}

-- a room that m boxes fit in
pub record BoxRoom (m : ℕ) (bs : List Float) : Type 0 where
  pub few : m ≤ 513
  pub long : 2052 ≤ length bs

-- the box at entry u
abbrev pub box_in : List Float → ℕ → Box
box_in bs u =
    record { min_x = get_or bs u nan; min_y = get_or bs (513 + u) nan; max_x = get_or bs (1026 + u) nan; max_y = get_or bs (1539 + u) nan }

-- the box that no box overlaps
abbrev pub nowhere : Box
nowhere = record { min_x = nan; min_y = nan; max_x = nan; max_y = nan }

-- no low end of the second is above the first's, and no high end below
unfoldable pub is_within : Box → Box → Bool
is_within b o = le o.min_x b.min_x && (le b.max_x o.max_x && (le o.min_y b.min_y && le b.max_y o.max_y))

-- a box is so within each of the first m
unfoldable pub within_all : Box → List Float → ℕ → Bool
within_all b bs zero = true
within_all b bs (suc m) = within_all b bs m && is_within b (box_in bs m)

-- the box of some ends, if it is within each of the first m boxes, which are 8 or more and fit in the room; else nowhere
unfoldable pub inner_of : Box → ℕ → List Float → Box
inner_of ends m bs = cond (leb 8 m && (leb m 513 && (leb 2052 (length bs) && within_all ends bs m))) ends nowhere
