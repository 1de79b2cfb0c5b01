-- What the private functions ask and promise. Definitions only.
use Rattle.std.specs.Prelude.{Ok, Err, Result, ℕ, ◌^◌, ◌<◌, length}
use Rattle.refusals.specs.declared.Refusal.{Refusal}
use Rattle.visit.specs.declared.Tally.{Tally}
use Rattle.refusals.specs.Refusals.{answer_by}
use Rattle.grid.specs.declared.Grid.{Grid}
use Rattle.grid.specs.Domain.{Lines}
use Rattle.tables.specs.Tables.{Tables, cells}
use Rattle.tables.specs.InsideFit.{CellsFit, GlobalsFit}
use Rattle.visit.specs.Batches.{overlapping}
use Rattle.seek.specs.Bookmarks.{tests_from}
use Rattle.visit.specs.Entries.{batch_of}
use Rattle.chain.specs.Printed.{all_tests}
use Rattle.chain.specs.declared.Visited.{Visited}

-- ---- the report

-- tables that can be shown, all of them
pub record ShowAsks (t : Tables) : Type 0 where
  pub few : cells t < 2 ^ 32
  pub lists : CellsFit (cells t) t.offsets t.items
  pub globals : GlobalsFit t.lines t.global_count t.globals

-- a cell whose line can be put
pub record ShowCellAsks (t : Tables) (c : ℕ) : Type 0 where
  pub lists : CellsFit (cells t) t.offsets t.items
  pub inside : c < cells t

-- ---- the visit

-- a batch of a visit from a bookmark, into outputs of 1,024
abbrev pub batch_from : Lines → Grid → Tables → ℕ → Result Tally Refusal
batch_from ls g t b = batch_of ls b 1024 (tests_from ls g t b)

-- a full visit: all tests, and those of them that overlap
unfoldable pub full_visit : Lines → Grid → Tables → Result Visited Refusal
full_visit ls g t = answer_by Err (λ ps. Ok (record { tests = length ps; overlaps = length (overlapping ls ps) })) (all_tests ls g t)
