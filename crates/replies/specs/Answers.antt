-- Document 01's number and values for each case of each entry's answer. Definitions only.
use Rattle.std.specs.Prelude.{Ok, Err, Some, None, Result, Option, Bool, ℕ, ◌-◌, cond, [], ◌∷◌}
use Rattle.std.specs.Float.{binary64}
use Rattle.std.specs.Float.Ieee.{to_bits}
use Rattle.refusals.specs.declared.Refusal.{Refusal}
use Rattle.refusals.specs.Refusals.{Check}
use Rattle.snap.specs.declared.Snapped.{Snapped}
use Rattle.own.specs.declared.Owner.{Owner}
use Rattle.own.specs.declared.Owner.TheVariants as owner
use Rattle.seek.specs.declared.Place.{Place}
use Rattle.seek.specs.declared.Place.TheVariants as place
use Rattle.build.specs.declared.Standing.{Standing}
use Rattle.visit.specs.declared.Test.{Test}
use Rattle.visit.specs.declared.Tally.{Tally}
use Rattle.replies.specs.Replies.{Reply, success, refusing}

-- ---- a check: no value where it finds nothing

unfoldable pub of_check : Check → Reply
of_check (Ok _) = success []
of_check (Err r) = refusing r

-- ---- snapping: the bits of the point

unfoldable pub of_snap : Result Snapped Refusal → Reply
of_snap (Ok p) = success (to_bits binary64 p.x ∷ to_bits binary64 p.y ∷ [])
of_snap (Err r) = refusing r

-- ---- the two strategies: 1 where they give the same bits, else 0

unfoldable pub of_agreement : Result Bool Refusal → Reply
of_agreement (Ok same) = success (cond same 1 0 ∷ [])
of_agreement (Err r) = refusing r

-- ---- ownership: 1 where the cell owns it, else 0; the owner: 1 with its row and column; 2 and two zeros in a seam; three zeros outside the grid

unfoldable pub of_owned : Result Bool Refusal → Reply
of_owned (Ok owns) = success (cond owns 1 0 ∷ [])
of_owned (Err r) = refusing r

unfoldable pub of_owner : Owner → Reply
of_owner (owner.Cell row col) = success (1 ∷ row ∷ col ∷ [])
of_owner owner.Seam = success (2 ∷ 0 ∷ 0 ∷ [])
of_owner owner.Outside = success (0 ∷ 0 ∷ 0 ∷ [])

unfoldable pub of_owner_answer : Result Owner Refusal → Reply
of_owner_answer (Ok o) = of_owner o
of_owner_answer (Err r) = refusing r

-- ---- the reader: the number of points; the points are in x and y

unfoldable pub of_read : Result ℕ Refusal → Reply
of_read (Ok n) = success (n ∷ [])
of_read (Err r) = refusing r

-- ---- the walk: the number of cells; the cells are in the scratch

unfoldable pub of_cells : Result ℕ Refusal → Reply
of_cells (Ok n) = success (n ∷ [])
of_cells (Err r) = refusing r

-- ---- the build: the grid, the number of items and the number of globals; the tables are in their slices

unfoldable pub of_built : Result Standing Refusal → Reply
of_built (Ok t) =
    success
    (to_bits binary64 t.grid.min_x
    ∷ to_bits binary64 t.grid.min_y
    ∷ to_bits binary64 t.grid.cell_width
    ∷ to_bits binary64 t.grid.cell_height
    ∷ t.grid.cols
    ∷ t.grid.rows
    ∷ t.items
    ∷ t.globals
    ∷ [])
of_built (Err r) = refusing r

-- ---- a list by its place: where its part starts, and its length. A cell's list is the part of the items from its offset to the next, as
-- `list_at` takes it, and a global's the part of the globals from its position to their end.

unfoldable pub of_part : Check → ℕ → ℕ → Reply
of_part (Ok _) from to = success (from ∷ (to - from) ∷ [])
of_part (Err r) from to = refusing r

-- ---- one test: 0 for a cell with its row and column, 1 for a global line with its position, 2 for the end mark; the two lines; 1 where their
-- boxes overlap, else 0

unfoldable pub of_place : Place → ℕ → ℕ → ℕ → Reply
of_place (place.Cell row col) first second overlap = success (0 ∷ row ∷ col ∷ first ∷ second ∷ overlap ∷ [])
of_place (place.Global position) first second overlap = success (1 ∷ position ∷ 0 ∷ first ∷ second ∷ overlap ∷ [])

unfoldable pub of_test : Result (Option Test) Refusal → Reply
of_test (Ok (Some t)) = of_place t.place t.first t.second (cond t.overlap 1 0)
of_test (Ok None) = success (2 ∷ 0 ∷ 0 ∷ 0 ∷ 0 ∷ 0 ∷ [])
of_test (Err r) = refusing r

-- ---- a batch: the tests made, the overlaps, the new bookmark; the pairs are in the outputs

unfoldable pub of_batch : Result Tally Refusal → Reply
of_batch (Ok t) = success (t.tests ∷ t.overlaps ∷ t.bookmark ∷ [])
of_batch (Err r) = refusing r
