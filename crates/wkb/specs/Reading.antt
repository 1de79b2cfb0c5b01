-- What a reader of one LineString finds in bytes, answers and leaves (document 01, "The program" and refusals 3 and 11). Definitions only.
use Rattle.std.specs.Prelude.{Ok, Err, Result, ℕ, zero, suc, ◌+◌, ◌*◌, Bool, true, false, ◌&&◌, ◌≡◌, List, map, pos, leb, eqb, Float, length, get_or}
use Rattle.refusals.specs.declared.Refusal.{Refusal}
use Rattle.refusals.specs.Refusals.{Check}
use Rattle.std.specs.Float.{fin, binary64}
use Rattle.std.specs.Float.Ieee.{of_bits}
use Rattle.refusals.specs.Refusals.{unless, and_then, Answer, gives, ◌then◌, answer_by, left_in, zero_beyond}
use Rattle.wkb.specs.Bytes.{Point, LineString, number_at, points_at}
use Rattle.wkb.specs.declared.Order.{Order}
use Rattle.wkb.specs.declared.Order.TheVariants.{Big, Little}

-- 11: a field from `start` up to `end`. Cut, it is refused at the end of input; wrong, at its first byte.
unfoldable pub field_check : List ℕ → ℕ → ℕ → Bool → Check
field_check bs start end right = and_then (unless (leb end (length bs)) 11 (length bs)) (unless right 11 start)

-- the order that a first byte of 0 or 1 names
unfoldable pub order_of : ℕ → Order
order_of zero = Big
order_of (suc b) = Little

-- ---- what stands at a position

-- the order that the byte there names
unfoldable pub order_at : ℕ → List ℕ → Order
order_at at bs = order_of (get_or bs at 0)

-- the type, and the number that follows it: of points, or of members
unfoldable pub type_at : ℕ → List ℕ → ℕ
type_at at bs = number_at (order_at at bs) 4 (at + 1) bs

unfoldable pub count_at : ℕ → List ℕ → ℕ
count_at at bs = number_at (order_at at bs) 4 (at + 5) bs

-- the points of a LineString, of 16 bytes each, and where it ends
unfoldable pub line_at : ℕ → List ℕ → List Point
line_at at bs = points_at (order_at at bs) (count_at at bs) (at + 9) bs

unfoldable pub end_at : ℕ → List ℕ → ℕ
end_at at bs = at + 9 + 16 * count_at at bs

-- ---- the fields, in their order

-- the byte order: 0 or 1; the type
unfoldable pub head_check : ℕ → ℕ → List ℕ → Check
head_check type at bs = and_then (field_check bs at (at + 1) (leb (get_or bs at 0) 1)) (field_check bs (at + 1) (at + 5) (eqb (type_at at bs) type))

-- a LineString: the type 2, 1 to 1,024 points, the points
unfoldable pub line_check : ℕ → List ℕ → Check
line_check at bs =
    and_then (head_check 2 at bs)
    (and_then (field_check bs (at + 5) (at + 9) (leb 1 (count_at at bs) && leb (count_at at bs) 1024)) (field_check bs (at + 9) (end_at at bs) true))

-- nothing follows
unfoldable pub end_check : ℕ → List ℕ → Check
end_check at bs = unless (leb (length bs) at) 11 at

-- the whole input is one LineString
unfoldable pub found : List ℕ → Answer (List Point)
found bs = line_check 0 bs then end_check (end_at 0 bs) bs then gives (line_at 0 bs)

-- ---- the call

-- 3: the point slices, of lengths m and n, differ or are short
unfoldable pub slices_check : ℕ → ℕ → Check
slices_check m n = unless (eqb m n && leb 1024 m) 3 0

unfoldable pub outcome : ℕ → ℕ → List ℕ → Answer (List Point)
outcome m n bs = slices_check m n then found bs

-- the answer: how many points, or the refusal
unfoldable pub read_of : Answer (List Point) → Result ℕ Refusal
read_of o = answer_by Err (λ ps. Ok (length ps)) o

abbrev pub nought : Float
nought = fin false 0 (pos 0)

-- What a slice holds then, f being the slice's coordinate: the points at its start. Every bit pattern of a NaN gives the NaN.
unfoldable pub points_left : (Point → ℕ) → Answer (List Point) → List Float → List Float
points_left f o was = left_in nought was o (λ ps. zero_beyond nought (length was) (map (λ p. of_bits binary64 (f p)) ps))

-- The promise of the reader: its answer, what the slices hold then, and both ways that points are found in the bytes of a LineString, its
-- own points, and in no others.
pub record ReadAs (bs : List ℕ) (x₀ y₀ : List Float) (r : Result ℕ Refusal) (x₁ y₁ : List Float) : Type 0 where
  pub answer : r ≡ read_of (outcome (length x₀) (length y₀) bs)
  pub in_x : x₁ ≡ points_left (λ p. p.x) (outcome (length x₀) (length y₀) bs) x₀
  pub in_y : y₁ ≡ points_left (λ p. p.y) (outcome (length x₀) (length y₀) bs) y₀
  pub only : (ps : List Point) → found bs ≡ gives ps → LineString bs ps
  pub every : (ps : List Point) → LineString bs ps → found bs ≡ gives ps
