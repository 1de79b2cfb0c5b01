-- What the private functions ask and promise. Definitions only.
use Rattle.std.specs.Prelude.{◌≡◌, true, cond, ◌&&◌, List, ℕ, ◌-◌, ◌*◌, ◌<◌, ltb, length, Option, Some, None, Result, Ok, Err}
use Rattle.refusals.specs.declared.Refusal.{Refusal}
use Rattle.refusals.specs.Refusals.{Check, Answer, and_then, ◌then◌, ◌into◌}
use Rattle.build.specs.declared.Standing.{Standing}
use Rattle.grid.specs.declared.Grid.{Grid}
use Rattle.grid.specs.Domain.{Lines, fit, scratch_check, lines_check}
use Rattle.walk.specs.declared.Mode.{Mode}
use Rattle.sizing.specs.declared.Extent.{Extent}
use Rattle.sizing.specs.declared.Size.{Size}
use Rattle.sizing.specs.Size.{half_of}
use Rattle.sizing.specs.Counts.{grid_of}
use Rattle.fill.specs.declared.Filled.{Filled}
use Rattle.fill.specs.declared.Filled.TheVariants as filled
use Rattle.fill.specs.OnGrid.{grid_cells}
use Rattle.build.specs.Choice.{chosen}
use Rattle.build.specs.Build.{room_on, BuildIs}

-- 500 where the size can be halved, and else no limit: there are at most 65,536 lines
abbrev pub most_on : Grid → ℕ → ℕ
most_on g left = cond (ltb 0 left && ltb (grid_cells g * 4) 1000000) 500 65536

-- what an answer of `fill` on a grid leads to
abbrev pub attempt_by : Grid → Result Filled Refusal → Option (Result Standing Refusal)
attempt_by g (Ok (filled.Tables items globals)) = Some (Ok (record { grid = g; items = items; globals = globals }))
attempt_by g (Ok filled.Crowded) = None
attempt_by g (Err r) = Some (Err r)

-- 3, 2, 1
abbrev pub lent_of : Lines → ℕ → Check
lent_of ls scratch = and_then (scratch_check scratch) (lines_check ls)

-- the grid of the size is fit, where the lines pass
pub record AttemptAsks (ls : Lines) (e : Extent) (size : Size) (s : List ℕ) : Type 0 where
  pub fits : lent_of ls (length s) ≡ Ok tt → fit (grid_of e size) ≡ true

-- how a build ends from a size on, with so many halvings left
abbrev pub end_from : Mode → ℕ → Extent → Size → Lines → ℕ → ℕ → ℕ → ℕ → Answer Grid
end_from mode left e size ls offsets items globals scratch = lent_of ls scratch then (chosen mode left e size ls offsets into room_on mode ls items globals)

-- the choice goes on from half the size
pub record Halved (mode : Mode) (left : ℕ) (e : Extent) (size : Size) (ls : Lines) (offsets scratch : ℕ) : Type 0 where
  pub some : 0 < left
  pub lent : lent_of ls scratch ≡ Ok tt
  pub next : chosen mode left e size ls offsets ≡ chosen mode (left - 1) e (half_of size) ls offsets
  pub few : grid_cells (grid_of e size) * 4 < 1000000

-- one size tried: the end of the build from it on, or the next halving
abbrev pub AttemptIs : Mode → ℕ → Extent → Size → Lines → List ℕ → List ℕ → List ℕ → List ℕ → List ℕ → List ℕ → List ℕ → List ℕ → Option (Result Standing Refusal) → Type 0
AttemptIs mode left e size ls o t gs s o' t' gs' s' (Some b) =
    BuildIs mode ls o t gs s b o' t' gs' s' (end_from mode left e size ls (length o) (length t) (length gs) (length s))
AttemptIs mode left e size ls o t gs s o' t' gs' s' None = Halved mode left e size ls (length o) (length s)
