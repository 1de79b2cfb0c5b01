-- Document 01's number and values for each case of each entry's answer. Definitions only.
use Rattle.std.specs.Prelude.{Ok, Err, Result, [], ◌∷◌}
use Rattle.refusals.specs.declared.Refusal.{Refusal}
use Rattle.std.specs.Float.{binary64}
use Rattle.std.specs.Float.Ieee.{to_bits}
use Rattle.grid.specs.declared.Grid.{Grid}
use Rattle.counts.specs.declared.Counted.{Counted}
use Rattle.counts.specs.declared.Tabled.{Tabled}
use Rattle.replies.specs.Replies.{Reply, success, refusing}

-- the count: the sum of all counts, and the number of global lines; the counts are in their slice
unfoldable pub of_counted : Result Counted Refusal → Reply
of_counted (Ok n) = success (n.listed ∷ n.globals ∷ [])
of_counted (Err r) = refusing r

-- tables on a grid: the number of items and of globals; the tables are in their slices
unfoldable pub of_tabled : Result Tabled Refusal → Reply
of_tabled (Ok n) = success (n.items ∷ n.globals ∷ [])
of_tabled (Err r) = refusing r

-- a grid, by the words that every function takes it by
unfoldable pub of_grid : Grid → Reply
of_grid g =
    success
    (to_bits binary64 g.min_x
    ∷ to_bits binary64 g.min_y
    ∷ to_bits binary64 g.cell_width
    ∷ to_bits binary64 g.cell_height
    ∷ g.cols
    ∷ g.rows
    ∷ [])

unfoldable pub of_grid_answer : Result Grid Refusal → Reply
of_grid_answer (Ok g) = of_grid g
of_grid_answer (Err r) = refusing r
