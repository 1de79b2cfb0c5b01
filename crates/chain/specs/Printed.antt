-- Document 01, "The program": what is printed for the bytes that are read. Definitions only.
use Rattle.std.specs.Prelude.{ℕ, zero, suc, ◌*◌, ◌/◌, ◌%◌, List, [], ◌++◌, map, Float, length}
use Rattle.std.specs.Float.{binary64}
use Rattle.std.specs.Float.Ieee.{of_bits, to_bits}
use Rattle.wkb.specs.Bytes.{Point}
use Rattle.wkb.specs.Reading.{found}
use Rattle.wkb.specs.Multi.{starts, ends}
use Rattle.refusals.specs.declared.Refusal.{Refusal}
use Rattle.refusals.specs.Refusals.{Answer, gives, ◌then◌, answer_by, zero_beyond}
use Rattle.grid.specs.declared.Grid.{Grid}
use Rattle.grid.specs.Domain.{Lines, lines}
use Rattle.tables.specs.Lists.{items_of, offsets_of}
use Rattle.fill.specs.OnGrid.{list_on, globals_on, total}
use Rattle.build.specs.declared.Plan.{Plan}
use Rattle.build.specs.Build.{end_of}
use Rattle.tables.specs.Tables.{Tables, cells, list_of, globals_of, beside}
use Rattle.seek.specs.Tests.{Pair, tests_of}
use Rattle.visit.specs.Batches.{overlapping}
use Rattle.seek.specs.Bookmarks.{visit_check}
use Rattle.report.specs.Lines.{grid_line, cell_line, global_line, visit_line, refused_line}

-- a refusal prints `refused` and the number
abbrev pub refused_text : Refusal → List ℕ
refused_text r = refused_line r.number

-- ---- standing tables

-- one line for each nonempty cell of the first n, in row order
unfoldable pub cell_lines : Tables → ℕ → List ℕ
cell_lines t zero = []
cell_lines t (suc c) = cell_lines t c ++ cell_line (c / t.cols) (c % t.cols) (list_of t c)

-- the grid, the cells, the globals, the visit
unfoldable pub report_of : Grid → Tables → ℕ → ℕ → ℕ → List ℕ
report_of g t items tests overlaps =
    grid_line g.cols g.rows (to_bits binary64 g.cell_width) (to_bits binary64 g.cell_height) items t.global_count
    ++ (cell_lines t (cells t) ++ (global_line (globals_of t) ++ visit_line tests overlaps))

-- a full visit: all tests
unfoldable pub all_tests : Lines → Grid → Tables → Answer (List Pair)
all_tests ls g t = visit_check ls g t then gives (tests_of t)

-- with the number of tests and of those that overlap
unfoldable pub printed_tables : Lines → Grid → Tables → ℕ → List ℕ
printed_tables ls g t items = answer_by refused_text (λ ps. report_of g t items (length ps) (length (overlapping ls ps))) (all_tests ls g t)

-- ---- lines

-- the tables that a build of a plan leaves in 4,096 offsets, 4,096 items and 64 globals
unfoldable pub tables_on : Plan → Lines → Grid → Tables
tables_on plan ls g =
    beside ls g (offsets_of (list_on plan.mode g ls) (g.rows * g.cols) 4096) (items_of (list_on plan.mode g ls) (g.rows * g.cols) 4096)
    (zero_beyond 0 64 (globals_on plan.mode g ls)) (length (globals_on plan.mode g ls))

unfoldable pub printed_on : Plan → Lines → Grid → List ℕ
printed_on plan ls g = printed_tables ls g (tables_on plan ls g) (total plan.mode g ls)

unfoldable pub printed_lines : Plan → Lines → List ℕ
printed_lines plan ls = answer_by refused_text (printed_on plan ls) (end_of plan ls 4096 4096 64 16384)

-- ---- the input

-- consecutive points make lines
unfoldable pub chain_of : List Float → List Float → Lines
chain_of xs ys = lines (starts xs) (starts ys) (ends xs) (ends ys)

unfoldable pub printed_points : Plan → List Point → List ℕ
printed_points plan ps = printed_lines plan (chain_of (map (λ (p : Point). of_bits binary64 p.x) ps) (map (λ (p : Point). of_bits binary64 p.y) ps))

-- WHAT THE PROGRAM OF A PLAN PRINTS for the bytes of its input
unfoldable pub printed : Plan → List ℕ → List ℕ
printed plan bs = answer_by refused_text (printed_points plan) (found bs)
