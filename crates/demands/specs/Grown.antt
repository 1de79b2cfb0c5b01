-- Document 02, 11: "from here demand 3's build reads 'a build, or a build followed by lines added in its mode, each numbered with the count of lines so
-- far'." The lines and the tables that such calls come to, straight from what they promise. Definitions only.
use Rattle.std.specs.Prelude.{Ok, Result, ◌≡◌, List, [], ◌∷◌, ◌++◌, ℕ, suc, ◌<◌, length}
use Rattle.refusals.specs.declared.Refusal.{Refusal}
use Rattle.grid.specs.declared.Grid.{Grid}
use Rattle.grid.specs.declared.Segment.{Segment}
use Rattle.grid.specs.Domain.{Lines, lines, count}
use Rattle.walk.specs.declared.Mode.{Mode}
use Rattle.tables.specs.Tables.{Tables, tables, cells, list_of, globals_of, beside}
use Rattle.tables.specs.Fit.{TablesFit}
use Rattle.build.specs.declared.Plan.{Plan}
use Rattle.build.specs.declared.Standing.{Standing}
use Rattle.build.specs.Build.{end_of, BuildIs}
use Rattle.added.specs.declared.Added.{Added}
use Rattle.added.specs.Added.{add_end, AddIs}

-- a build that succeeded, in some slices
pub record FromBuild (mode : Mode) (g : Grid) (ls : Lines) (t : Tables) : Type 0 where
  pub plan : Plan
  pub same_mode : plan.mode ≡ mode
  pub offsets : List ℕ
  pub items : List ℕ
  pub globals : List ℕ
  pub scratch : List ℕ
  pub answer : (Result Standing Refusal)
  pub offsets' : List ℕ
  pub items' : List ℕ
  pub globals' : List ℕ
  pub scratch' : List ℕ
  pub standing : Standing
  pub is : BuildIs plan.mode ls offsets items globals scratch answer offsets' items' globals' scratch' (end_of plan ls (length offsets) (length items) (length globals) (length scratch))
  pub made : answer ≡ Ok standing
  pub on_grid : standing.grid ≡ g
  pub left : t ≡ beside ls g offsets' items' globals' standing.globals

-- the lines, and one more
unfoldable pub with_line : Lines → Segment → Lines
with_line ls line =
    lines (ls.start_x ++ (line.start_x ∷ [])) (ls.start_y ++ (line.start_y ∷ [])) (ls.end_x ++ (line.end_x ∷ [])) (ls.end_y ++ (line.end_y ∷ []))

-- a line that was added, numbered with the count of the lines; either entry of `added`, by what it leaves in the scratch. One that was added with its summary
-- is such a line, too (`line_beside`).
pub record FromLine (mode : Mode) (g : Grid) (ls : Lines) (t : Tables) (line : Segment) (t' : Tables) : Type 0 where
  pub scratch : List ℕ
  pub leaves : List ℕ → List ℕ
  pub answer : (Result Added Refusal)
  pub listing_cells : ℕ
  pub all_items : ℕ
  pub all_globals : ℕ
  pub offsets' : List ℕ
  pub items' : List ℕ
  pub globals' : List ℕ
  pub scratch' : List ℕ
  pub is : AddIs t (add_end mode g line t (length scratch)) scratch leaves answer offsets' items' globals' scratch'
  pub made : answer ≡ Ok (record { cells = listing_cells; items = all_items; globals = all_globals })
  pub left : t' ≡ tables g (suc (count ls)) offsets' items' globals' all_globals

-- the same lists in other slices, which may have more room
pub record SameLists (g : Grid) (ls : Lines) (t t' : Tables) : Type 0 where
  pub on_grid : t' ≡ tables g (count ls) t'.offsets t'.items t'.globals t'.global_count
  pub fits : TablesFit t'
  pub lists : (c : ℕ) → c < cells t → list_of t' c ≡ list_of t c
  pub globals : globals_of t' ≡ globals_of t

-- "a build, or a build followed by lines added in its mode": the mode, the grid, the lines so far and their tables
pub data Grown (mode : Mode) (g : Grid) : Lines → Tables → Type 0 where
  from_build : {ls : Lines} {t : Tables} → FromBuild mode g ls t → Grown mode g ls t
  one_more : {ls : Lines} {t : Tables} {line : Segment} {t' : Tables} → Grown mode g ls t → FromLine mode g ls t line t' → Grown mode g (with_line ls line) t'
  moved : {ls : Lines} {t t' : Tables} → Grown mode g ls t → SameLists g ls t t' → Grown mode g ls t'
