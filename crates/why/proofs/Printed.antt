-- The refusal is the one that the program prints. Assumes nothing.
use mathlib.Core.Path.{◌≡◌, refl}
use mathlib.Core.List.{List}
use Prim.Native.Nat.{ℕ, ◌<◌}
use native.Mathlib.Omega.{arith}
use Rattle.refusals.specs.Refusals.{Answer, refused, gives, answer_by}
use Rattle.grid.specs.declared.Grid.{Grid}
use Rattle.grid.specs.Domain.{Lines}
use Rattle.wkb.specs.Bytes.{Point}
use Rattle.wkb.specs.Reading.{found}
use Rattle.build.specs.declared.Plan.{Plan}
use Rattle.build.specs.Build.{end_of}
use Rattle.chain.specs.Printed.{refused_text, printed_on, printed_lines, printed_points, printed}
use Rattle.why.specs.Why.{nothing, of_lines, of_points, refusal_of}

module _ (plan : Plan) (ls : Lines) where
  at_end : (e : Answer Grid) → 0 < (answer_by (λ r. r) (λ g. nothing) e).number → answer_by refused_text (printed_on plan ls) e ≡ refused_text (answer_by (λ r. r) (λ g. nothing) e)
  unfolding answer_by nothing
  at_end (refused r) h = refl
  at_end (gives g) h = absurd (omega arith)

  of_lines_lem : 0 < (of_lines plan ls).number → printed_lines plan ls ≡ refused_text (of_lines plan ls)
  unfolding of_lines printed_lines
  of_lines_lem h = at_end (end_of plan ls 4096 4096 64 16384) h

module _ (plan : Plan) where
  of_found : (f : Answer (List Point)) → 0 < (answer_by (λ r. r) (of_points plan) f).number → answer_by refused_text (printed_points plan) f ≡ refused_text (answer_by (λ r. r) (of_points plan) f)
  unfolding answer_by of_points printed_points
  of_found (refused r) h = refl
  of_found (gives ps) h = of_lines_lem plan _ h

  -- WHERE THERE IS A REFUSAL, the program prints `refused` and its number
  pub prints_refusal : (bs : List ℕ) → 0 < (refusal_of plan bs).number → printed plan bs ≡ refused_text (refusal_of plan bs)
  unfolding refusal_of printed
  prints_refusal bs h = of_found (found bs) h
