-- The decision whether two lines of samples share a point. That it is document 02's sentence, both ways, is a law (`exact`). Definitions only.
use Rattle.std.specs.Prelude.{◌≡◌, Bool, not, ◌&&◌, ◌||◌, ℕ, ◌+◌, ◌*◌, ◌≤◌, min, max, leb, ltb}
use Rattle.samples.specs.declared.Raised.{Raised}
use Rattle.samples.specs.Samples.{Samples, sampled, raised_at}

-- ---- sides

-- The point (x, y) lies left of a line, seen from its start to its end, where the first sum is the greater, right of it where the second is, and on the
-- line through both ends where they are equal: their difference is twice the area of the triangle of the three points, with its sign.
unfoldable pub left_sum : Raised → ℕ → ℕ → ℕ
left_sum a x y = a.end_x * y + a.start_x * a.end_y + x * a.start_y

unfoldable pub right_sum : Raised → ℕ → ℕ → ℕ
right_sum a x y = a.end_x * a.start_y + a.start_x * y + x * a.end_y

-- each of the six products of raised samples is at most 2^60, so that the sums fit 64 bits
pub record Product (x y r : ℕ) : Type 0 where
  pub is : r ≡ x * y
  pub most : r ≤ 1152921504606846976

-- both ends of b lie strictly on one side of a
unfoldable pub aside : Raised → Raised → Bool
aside a b =
    let l₁ = left_sum a b.start_x b.start_y in
    let r₁ = right_sum a b.start_x b.start_y in
    let l₂ = left_sum a b.end_x b.end_y in
    let r₂ = right_sum a b.end_x b.end_y in
    (ltb r₁ l₁ && ltb r₂ l₂) || (ltb l₁ r₁ && ltb l₂ r₂)

-- ---- boxes

-- the boxes of two lines overlap, with equality allowed
unfoldable pub boxes_overlap : Raised → Raised → Bool
boxes_overlap a b =
    leb (min b.start_x b.end_x) (max a.start_x a.end_x)
    && (leb (min a.start_x a.end_x) (max b.start_x b.end_x)
    && (leb (min b.start_y b.end_y) (max a.start_y a.end_y)
    && leb (min a.start_y a.end_y) (max b.start_y b.end_y)))

-- ---- the decision

-- the boxes overlap, and neither line has both ends of the other strictly on one side; no where a number is no sample
unfoldable pub sharing : Raised → Raised → Bool
sharing a b = boxes_overlap a b && (sampled a && (sampled b && (not (aside a b) && not (aside b a))))

-- the same of two lines by their numbers
unfoldable pub shares : Samples → ℕ → ℕ → Bool
shares ss a b = sharing (raised_at ss a) (raised_at ss b)
