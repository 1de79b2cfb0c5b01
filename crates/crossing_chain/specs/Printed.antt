-- Document 02, 7: "The program reads the samples as a LineString, builds, and prints the count and the pairs, with room for 4,096." What is printed for the
-- bytes that are read: a line `crossings N`, then for each pair a line `pair FIRST SECOND`; or `refused N`. Definitions only.
use Rattle.std.specs.Prelude.{ℕ, ◌*◌, List, [], ◌∷◌, ◌++◌, map, length, replicate, from_bits}
use Rattle.std.specs.Float.{binary64}
use Rattle.wkb.specs.Bytes.{Point}
use Rattle.wkb.specs.Reading.{found}
use Rattle.refusals.specs.Refusals.{Answer, ◌then◌, ◌into◌, answer_by, zero_beyond}
use Rattle.grid.specs.declared.Grid.{Grid}
use Rattle.grid.specs.Domain.{Lines}
use Rattle.tables.specs.Lists.{items_of, offsets_of}
use Rattle.tables.specs.Tables.{Tables}
use Rattle.fill.specs.OnGrid.{list_on, globals_on}
use Rattle.build.specs.declared.Plan.{Plan}
use Rattle.build.specs.Build.{end_of}
use Rattle.seek.specs.Tests.{Pair}
use Rattle.visit.specs.Batches.{firsts, seconds}
use Rattle.samples.specs.Samples.{Samples, sample_lines_check}
use Rattle.crossings.specs.Crossings.{beside_samples, crossings_by}
use Rattle.report.specs.Lines.{crossings_line, pair_line}
use Rattle.chain.specs.Printed.{refused_text, chain_of}
use Rattle.crossing_chain.specs.Whole.{whole_lines}

-- ---- the text

-- a line for each pair, whose lines stand in two lists
unfoldable pub pair_lines : List ℕ → List ℕ → List ℕ
pair_lines [] ns = []
pair_lines (a ∷ ms) [] = []
pair_lines (a ∷ ms) (b ∷ ns) = pair_line a b ++ pair_lines ms ns

-- how many there are, and a line for each
unfoldable pub crossings_text : List Pair → List ℕ
crossings_text ps = crossings_line (length ps) ++ pair_lines (firsts ps) (seconds ps)

-- ---- standing tables

-- the crossings, with room for 4,096 pairs, in a scratch for 1,023 lines and 4,096 items
unfoldable pub crossings_in : Samples → Grid → Tables → Answer (List Pair)
crossings_in ss g t = crossings_by ss g t (replicate 4096 0) (replicate 4096 0) (replicate 1024 0) (replicate 4096 0) (replicate 1024 0)

unfoldable pub crossings_of_tables : Samples → Grid → Tables → List ℕ
crossings_of_tables ss g t = answer_by refused_text crossings_text (crossings_in ss g t)

-- ---- lines

-- the tables that a build of a plan leaves in 4,096 offsets, 4,096 items and 64 globals, beside the samples
unfoldable pub tables_beside : Plan → Samples → Lines → Grid → Tables
tables_beside plan ss ls g =
    beside_samples ss g (offsets_of (list_on plan.mode g ls) (g.rows * g.cols) 4096) (items_of (list_on plan.mode g ls) (g.rows * g.cols) 4096)
    (zero_beyond 0 64 (globals_on plan.mode g ls)) (length (globals_on plan.mode g ls))

-- 15 of the samples; then the build's 4, 7, 5, 6; then 5 for the pairs; else the crossings
unfoldable pub crossings_built : Plan → Samples → Lines → Answer (List Pair)
crossings_built plan ss ls = sample_lines_check ss then (end_of plan ls 4096 4096 64 16384 into (λ g. crossings_in ss g (tables_beside plan ss ls g)))

unfoldable pub printed_samples : Plan → Samples → Lines → List ℕ
printed_samples plan ss ls = answer_by refused_text crossings_text (crossings_built plan ss ls)

unfoldable pub crossings_of_lines : Plan → Lines → List ℕ
crossings_of_lines plan ls = printed_samples plan (whole_lines ls) ls

-- ---- the input

unfoldable pub crossings_of_points : Plan → List Point → List ℕ
crossings_of_points plan ps = crossings_of_lines plan (chain_of (map (λ (p : Point). from_bits binary64 p.x) ps) (map (λ (p : Point). from_bits binary64 p.y) ps))

-- WHAT THE PROGRAM OF CROSSINGS PRINTS in a plan for the bytes of its input
unfoldable pub crossings_printed : Plan → List ℕ → List ℕ
crossings_printed plan bs = answer_by refused_text (crossings_of_points plan) (found bs)
