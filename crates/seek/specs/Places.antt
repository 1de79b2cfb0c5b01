-- A list by its place: a cell's part of the items, or the globals from a position on. Definitions only.
use Rattle.refusals.specs.Refusals.{Check}
use Rattle.std.specs.Prelude.{ℕ, ◌+◌, ◌*◌, List, [], ltb}
use Rattle.std.proofs.Math.Seq.{slice}
use Rattle.refusals.specs.Refusals.{unless, and_then, gives, ◌then◌, answer_by}
use Rattle.grid.specs.declared.Grid.{Grid}
use Rattle.grid.specs.Domain.{cell_check}
use Rattle.tables.specs.Tables.{Tables, list_of}
use Rattle.tables.specs.Fit.{standing_check}
use Rattle.seek.specs.declared.Place.{Place}
use Rattle.seek.specs.declared.Place.TheVariants.{Cell, Global}

-- 9: cell or global position beyond its end; the value is the cell's row, or the position
unfoldable pub place_check : Grid → ℕ → Place → Check
place_check g globals (Cell row col) = cell_check g row col
place_check g globals (Global p) = unless (ltb p globals) 9 p

-- 2, 8 and 10 of the tables, then 9
unfoldable pub list_check : Grid → Tables → Place → Check
list_check g t pl = and_then (standing_check g t) (place_check g t.global_count pl)

-- the list at a place within its end: cells are numbered in row order
unfoldable pub list_at : Tables → Place → List ℕ
list_at t (Cell row col) = list_of t (row * t.cols + col)
list_at t (Global p) = slice p t.global_count t.globals

-- a refusal returns an empty part
unfoldable pub part_at : Grid → Tables → Place → List ℕ
part_at g t pl = answer_by (λ r. []) (list_at t) (list_check g t pl then gives pl)
