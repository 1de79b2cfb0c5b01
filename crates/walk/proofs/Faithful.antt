-- The answer turns only on which cells were walked. So a push that drops a cell equal to the last pushed, as document 01 has it and the definitions leave out,
-- changes nothing in it. Assumes nothing.
use mathlib.Core.Path.{◌≡◌, sym, ◌∙◌}
use Prim.Native.Nat.{ℕ, ◌*◌}
use mathlib.Core.Bool.{Bool}
use mathlib.Core.List.{List}
use lib.Dec.{eqb}
use Rattle.slices.specs.Slices.{sorted, distinct_of}
use Rattle.slices.specs.Lists.{any, elem}
use Rattle.slices.proofs.Members.{any_append, any_distinct}
use Rattle.slices.proofs.Distinct.{same_members, thinned_same}
use Rattle.grid.specs.declared.Grid.{Grid}
use Rattle.grid.specs.declared.Segment.{Segment}
use Rattle.grid.specs.Axes.{x_axis, y_axis}
use Rattle.walk.specs.declared.Mode.{Mode}
use Rattle.walk.specs.Neighbours.{along_on, beside_of, line_of}
use Rattle.walk.specs.Segment.{pushes_of}
use Rattle.walk.proofs.Flat.{any_flat}

-- the answer turns on which cells were walked, and not on how often or in which order
module _ (mode : Mode) (g : Grid) (line : Segment) (xs ys : List ℕ) (same : (f : ℕ → Bool) → any f xs ≡ any f ys) where
  same_pushes : (u : ℕ) → elem u (pushes_of mode g line xs) ≡ elem u (pushes_of mode g line ys)
  unfolding pushes_of line_of
  same_pushes u =
      let beside = beside_of (along_on mode (x_axis g) line.start_x line.end_x) (along_on mode (y_axis g) line.start_y line.end_y) g.cols (g.rows * g.cols) in
      let added : any (eqb u) (line_of mode g line xs) ≡ any (eqb u) (line_of mode g line ys) =
      any_flat (eqb u) beside xs ∙ same (λ c. any (eqb u) (beside c)) ∙ sym (any_flat (eqb u) beside ys) in
      simp any_append (rw (same (eqb u), added))

  pub same_answer : distinct_of (sorted (pushes_of mode g line xs)) ≡ distinct_of (sorted (pushes_of mode g line ys))
  same_answer = same_members (pushes_of mode g line xs) (pushes_of mode g line ys) same_pushes

-- What is pushed where each push drops a cell equal to the last: of each run of equal cells the first (`distinct_of`). The line adds to the walk so thinned.
unfoldable pub dropped : Mode → Grid → Segment → List ℕ → List ℕ
dropped mode g line walked = distinct_of (pushes_of mode g line (distinct_of walked))

pub dropping : (mode : Mode) (g : Grid) (line : Segment) (walked : List ℕ) → distinct_of (sorted (dropped mode g line walked)) ≡ distinct_of (sorted (pushes_of mode g line walked))
unfolding dropped
dropping mode g line walked =
    thinned_same (pushes_of mode g line (distinct_of walked)) ∙ same_answer mode g line (distinct_of walked) walked (λ f. any_distinct f walked)
