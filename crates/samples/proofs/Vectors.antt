-- Worked examples: what is decided of two lines of samples, as one table with one claim, and a common point by its q, a and b. Assumes nothing.
use mathlib.Core.Path.{◌≡◌, refl}
use mathlib.Core.Bool.{Bool, true, false}
use mathlib.Core.List.{List, [], ◌∷◌}
use lib.Dec.{lit≤, lit<}
use lib.IntN.{ℤ, pos, negsuc}
use Rattle.grid.specs.Points.{WholeSegment, WholeShare, q_times}
use Rattle.samples.specs.Samples.{sample, lifted, raised, raised_of, all_samples, sampled}
use Rattle.samples.specs.Sharing.{left_sum, right_sum, aside, boxes_overlap, sharing}
use Rattle.samples.proofs.Both.{exact}

abbrev line : ℤ → ℤ → ℤ → ℤ → WholeSegment
line x₀ y₀ x₁ y₁ = record { start_x = x₀; start_y = y₀; end_x = x₁; end_y = y₁ }

record Row : Type 0 where
  first : WholeSegment
  second : WholeSegment

abbrev row : WholeSegment → WholeSegment → Row
row s t = record { first = s; second = t }

abbrev answers : List Row → List Bool
answers [] = []
answers (r ∷ rs) = sharing (raised_of r.first) (raised_of r.second) ∷ answers rs

abbrev flat : WholeSegment
flat = line (pos 0) (pos 0) (pos 4) (pos 0)

abbrev rising : WholeSegment
rising = line (pos 0) (pos 0) (pos 4) (pos 2)

-- 2^29 and its opposite, which are samples
abbrev most : ℤ
most = pos 536870912

abbrev least : ℤ
least = negsuc 536870911

table : List Row
table =
    -- a crossing inside both; a shared end; an end inside the other; ends on one line, but apart
    row rising (line (pos 0) (pos 2) (pos 4) (pos 0))
    ∷ row flat (line (pos 4) (pos 0) (pos 5) (pos 7))
    ∷ row flat (line (pos 2) (pos 0) (pos 2) (pos 3))
    ∷ row flat (line (pos 5) (pos 0) (pos 5) (pos 3))
    -- on one line: overlapping, touching, apart; equal; the same, turned round
    ∷ row flat (line (pos 3) (pos 0) (pos 9) (pos 0))
    ∷ row flat (line (pos 4) (pos 0) (pos 9) (pos 0))
    ∷ row rising (line (pos 6) (pos 3) (pos 8) (pos 4))
    ∷ row rising rising
    ∷ row rising (line (pos 4) (pos 2) (pos 0) (pos 0))
    -- parallel, with overlapping boxes
    ∷ row rising (line (pos 0) (pos 1) (pos 4) (pos 3))
    -- a single point: on a line, beside it, the same point, another one
    ∷ row rising (line (pos 2) (pos 1) (pos 2) (pos 1))
    ∷ row rising (line (pos 2) (pos 2) (pos 2) (pos 2))
    ∷ row (line (pos 7) (pos 7) (pos 7) (pos 7)) (line (pos 7) (pos 7) (pos 7) (pos 7))
    ∷ row (line (pos 7) (pos 7) (pos 7) (pos 7)) (line (pos 7) (pos 8) (pos 7) (pos 8))
    -- at the ends of the range: the diagonals; a hair beside a corner
    ∷ row (line least least most most) (line least most most least)
    ∷ row (line least most most least) (line (pos 0) (pos 1) most most)
    ∷ row (line least most most least) (line (pos 0) (pos 0) most most)
    ∷ []

table_holds : answers table
    ≡ true ∷ true ∷ true ∷ false ∷ true ∷ true ∷ false ∷ true ∷ true ∷ false ∷ true ∷ false ∷ true ∷ false ∷ true ∷ false ∷ true ∷ []
unfolding table sharing boxes_overlap aside left_sum right_sum sampled raised lifted sample
table_holds = refl

-- the first row's point is half of the way along both: q = 2, a = 1, b = 1
crossing : WholeShare rising (line (pos 0) (pos 2) (pos 4) (pos 0))
unfolding q_times
crossing = record { q = 2; a = 1; b = 1; above = lit< tt; a_to = lit≤ tt; b_to = lit≤ tt; on_x_lem = refl; on_y_lem = refl }

-- and the fourth row has none
pub apart : WholeShare flat (line (pos 5) (pos 0) (pos 5) (pos 3)) → ⊥
unfolding sharing boxes_overlap sampled raised lifted sample all_samples
apart w = (exact flat (line (pos 5) (pos 0) (pos 5) (pos 3)) refl refl).says_no refl w
