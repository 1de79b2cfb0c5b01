-- The refusal that the program of a plan prints for the bytes of its input, with the value that document 01 has for it. Definitions only.
use Rattle.std.specs.Prelude.{List, map, ℕ}
use Rattle.std.specs.Float.{binary64}
use Rattle.std.specs.Float.Ieee.{of_bits}
use Rattle.refusals.specs.declared.Refusal.{Refusal}
use Rattle.refusals.specs.Refusals.{answer_by}
use Rattle.grid.specs.Domain.{Lines}
use Rattle.wkb.specs.Bytes.{Point}
use Rattle.wkb.specs.Reading.{found}
use Rattle.build.specs.declared.Plan.{Plan}
use Rattle.build.specs.Build.{end_of}
use Rattle.chain.specs.Printed.{chain_of}

-- no refusal: number and value 0
unfoldable pub nothing : Refusal
nothing = record { number = 0; value = 0 }

-- of a build in 4,096 offsets, 4,096 items and 64 globals
unfoldable pub of_lines : Plan → Lines → Refusal
of_lines plan ls = answer_by (λ r. r) (λ g. nothing) (end_of plan ls 4096 4096 64 16384)

unfoldable pub of_points : Plan → List Point → Refusal
of_points plan ps = of_lines plan (chain_of (map (λ (p : Point). of_bits binary64 p.x) ps) (map (λ (p : Point). of_bits binary64 p.y) ps))

-- THE REFUSAL of the bytes: the reader's, else the build's
unfoldable pub refusal_of : Plan → List ℕ → Refusal
refusal_of plan bs = answer_by (λ r. r) (of_points plan) (found bs)
