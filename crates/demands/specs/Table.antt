-- Document 01, "Measured points": P1 to P10 as one table. A row has its label, what is asked, and what was measured; the claim is that every
-- question of every row is answered as it was measured. Of document 02 there is what the sided walk answers at P6 (change 4), and, where P9 and P10
-- speak of GeosCompat, whether it agrees with Grid (change 13). Definitions only.
use Rattle.std.specs.Prelude.{Ok, Result, Bool, ◌≡◌, true, false, List, [], ◌∷◌, ℕ, ◌+◌, ◌-◌, ◌^◌, Float}
use Rattle.refusals.specs.declared.Refusal.{Refusal}
use Rattle.numbers.specs.Arithmetic.{decimal, minus_decimal}
use Rattle.refusals.specs.Refusals.{gives}
use Rattle.grid.specs.declared.Grid.{Grid}
use Rattle.grid.specs.Domain.{segment_by}
use Rattle.walk.specs.declared.Mode.{Mode}
use Rattle.walk.specs.declared.Mode.TheVariants.{Rust, Sided}
use Rattle.walk.specs.Segment.{entry_of}
use Rattle.own.specs.Own.{point_answer}
use Rattle.snap.specs.Snap.{snap_answer}
use Rattle.snap.specs.Strategies.{agreement_answer}

-- "Grid at 0, 0, cell_size 1, 4 by 4": cells as high as wide
abbrev pub four : Grid
four = record { min_x = decimal 0 1; min_y = decimal 0 1; cell_width = decimal 1 1; cell_height = decimal 1 1; cols = 4; rows = 4 }

-- ---- a row

pub data Label : Type 0 where
  P1 : Label
  P2 : Label
  P3 : Label
  P4 : Label
  P5 : Label
  P6 : Label
  P7 : Label
  P8 : Label
  P9 : Label
  P10 : Label

-- what is asked, and what was measured
pub data Question : Type 0 where
  -- the segment from (x₀, y₀) to (x₁, y₁) in a mode of walk: its cells
  segment_in : (mode : Mode) (x₀ y₀ x₁ y₁ : Float) (cells : List ℕ) → Question
  -- the cell (row, col) and the point (x, y): whether it owns it
  owner : (row col : ℕ) (x y : Float) (owns : (Result Bool Refusal)) → Question
  -- v, size 1: v snapped
  snap : (v to : Float) → Question
  -- v, size 1: whether Grid and GeosCompat agree
  strategies : (v : Float) (agreement : (Result Bool Refusal)) → Question

-- in the Rust's mode, in which all was measured
abbrev pub segment_asked : Float → Float → Float → Float → List ℕ → Question
segment_asked x₀ y₀ x₁ y₁ cells = segment_in Rust x₀ y₀ x₁ y₁ cells

-- the point (x, y) as a segment
abbrev pub point_asked : Float → Float → List ℕ → Question
point_asked x y cells = segment_asked x y x y cells

-- and in the sided mode
abbrev pub point_sided : Float → Float → List ℕ → Question
point_sided x y cells = segment_in Sided x y x y cells

pub record Row : Type 0 where
  pub label : Label
  pub questions : List Question

abbrev pub row : Label → List Question → Row
row label questions = record { label = label; questions = questions }

-- ---- the table

abbrev pub table : List Row
table =
    row P1 (segment_asked (decimal 1 2) (decimal 1 2) (decimal 5 2) (decimal 1 2) (0 ∷ 1 ∷ 2 ∷ []) ∷ [])
    ∷ row P2 (segment_asked (decimal 1 1) (decimal 1 2) (decimal 1 1) (decimal 5 2) (0 ∷ 1 ∷ 4 ∷ 5 ∷ 8 ∷ 9 ∷ []) ∷ [])
    ∷ row P3 (point_asked (decimal 1 1) (decimal 1 1) (0 ∷ 1 ∷ 4 ∷ 5 ∷ []) ∷ [])
    ∷ row P4 (point_asked (decimal (2 ^ 41 + 1) (2 ^ 41)) (decimal 1 2) (0 ∷ 1 ∷ []) ∷ [])
    ∷ row P5 (point_asked (decimal (2 ^ 39 + 1) (2 ^ 39)) (decimal 1 2) (1 ∷ []) ∷ [])
    ∷ row P6
    (point_asked (decimal (2 ^ 41 - 1) (2 ^ 41)) (decimal 1 2) (0 ∷ []) ∷ point_sided (decimal (2 ^ 41 - 1) (2 ^ 41)) (decimal 1 2) (0 ∷ 1 ∷ []) ∷ [])
    ∷ row P7 (owner 0 1 (decimal 1 1) (decimal 1 2) (Ok true) ∷ owner 0 0 (decimal 1 1) (decimal 1 2) (Ok false) ∷ [])
    ∷ row P8 (owner 3 3 (decimal 4 1) (decimal 4 1) (Ok true) ∷ [])
    ∷ row P9
    (snap (decimal 49999999999999994 (10 ^ 17)) (decimal 0 1) ∷ strategies (decimal 49999999999999994 (10 ^ 17)) (Ok false) ∷ [])
    ∷ row P10 (snap (minus_decimal 5 2) (minus_decimal 3 1) ∷ strategies (minus_decimal 5 2) (Ok true) ∷ [])
    ∷ []

-- ---- the claim

-- a question is answered as it was measured: by what `walk::cells_of_segment` answers with 16,384 entries of scratch, `own::point_owned`,
-- `snap::snap_point` of a point with both coordinates v, and `snap::strategies::strategies_agree`
abbrev pub Answered : Question → Type 0
Answered (segment_in mode x₀ y₀ x₁ y₁ cells) = entry_of mode 16384 four (segment_by x₀ y₀ x₁ y₁) ≡ gives cells
Answered (owner row col x y owns) = point_answer four row col x y ≡ owns
Answered (snap v to) = snap_answer v v (decimal 1 1) 0 ≡ Ok (record { x = to; y = to })
Answered (strategies v agreement) = agreement_answer v (decimal 1 1) ≡ agreement

abbrev pub AllAnswered : List Question → Type 0
AllAnswered [] = Unit {0}
AllAnswered (q ∷ qs) = Answered q × AllAnswered qs

-- every row of a table
abbrev pub Claim : List Row → Type 0
Claim [] = Unit {0}
Claim (r ∷ rs) = AllAnswered r.questions × Claim rs
