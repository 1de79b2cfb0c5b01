-- Document 02, 12: "an added line changes only blocks holding cells it visits. At every moment each number equals what the offsets say". The line is added
-- as document 02, 11 has it, and the summary is then that of the new offsets. Definitions only.
use Rattle.refusals.specs.declared.Refusal.{Refusal}
use Rattle.std.specs.Prelude.{Result, ◌≡◌, List, ℕ, length}
use Rattle.refusals.specs.Refusals.{Check, unless, Answer, ◌then◌, zero_beyond}
use Rattle.grid.specs.declared.Grid.{Grid}
use Rattle.grid.specs.declared.Segment.{Segment}
use Rattle.walk.specs.declared.Mode.{Mode}
use Rattle.tables.specs.Tables.{Tables, cells}
use Rattle.tables.specs.Lists.{offsets_of}
use Rattle.blocks.specs.Blocks.{block_totals, own, summary_check}
use Rattle.added.specs.declared.Added.{Added}
use Rattle.added.specs.Added.{list_with, edge_check, ask_check, room_for, kept_in, cleared, AddIs}

-- 10: the summary and the offsets disagree
unfoldable pub own_check : Grid → List ℕ → List ℕ → Check
own_check g offsets summary = unless (own g offsets summary) 10 0

-- 3, of the summary too, 2, 1, 8, 10, of the summary too; then 14; then 7, 5, 6; else the cells that the line visits
unfoldable pub beside_end : Mode → Grid → Segment → Tables → List ℕ → ℕ → Answer (List ℕ)
beside_end mode g line t summary scratch =
    summary_check g (length summary)
    then ask_check g line t scratch
    then own_check g t.offsets summary
    then edge_check g line
    then room_for mode g line t

-- the offsets of the tables with the line in its lists
abbrev pub offsets_with : Tables → List ℕ → List ℕ
offsets_with t visited = offsets_of (list_with t visited) (cells t) (length t.offsets)

-- The promise: the answer, the tables and the scratch as change 11 has them, and the summary of the new offsets, with zero beyond the blocks. No refusal
-- changes it.
pub record BesideIs (mode : Mode) (g : Grid) (line : Segment) (t : Tables) (summary scratch : List ℕ) (r : Result Added Refusal) (offsets' items' globals' summary' scratch' : List ℕ) : Type 0 where
  pub tables_are : AddIs t (beside_end mode g line t summary (length scratch)) scratch (cleared scratch) r offsets' items' globals' scratch'
  pub summary_is : summary' ≡ kept_in summary (beside_end mode g line t summary (length scratch)) (λ visited. zero_beyond 0 (length summary) (block_totals g (offsets_with t visited)))
