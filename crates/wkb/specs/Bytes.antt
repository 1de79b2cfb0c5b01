-- Well-known binary (OGC 06-103r4, clause 8): the bytes of a number, of a point, of a list of points, of a LineString and of a
-- MultiLineString, in either byte order; and the numbers and points that stand at a position in bytes. A coordinate is its bit pattern
-- here. Definitions only.
use Rattle.std.specs.Prelude.{ℕ, zero, suc, ◌+◌, ◌*◌, ◌/◌, ◌%◌, ◌^◌, ◌≤◌, ◌<◌, ◌≡◌, length, take, drop}
use mathlib.Core.List.{List, [], ◌∷◌, ◌++◌, reverse, flat_map}
use Rattle.wkb.specs.declared.Order.{Order}
use Rattle.wkb.specs.declared.Order.TheVariants.{Big, Little}

-- ---- from values to bytes

-- the byte that names a byte order: XDR is 0 and NDR is 1
unfoldable pub order_byte : Order → ℕ
order_byte Big = 0
order_byte Little = 1

-- the k low bytes of a number, the least significant first
unfoldable pub little_bytes : ℕ → ℕ → List ℕ
little_bytes zero v = []
little_bytes (suc k) v = v % 256 ∷ little_bytes k (v / 256)

-- a number in k bytes: in the big order the most significant byte is first
unfoldable pub word_bytes : Order → ℕ → ℕ → List ℕ
word_bytes Big k v = reverse (little_bytes k v)
word_bytes Little k v = little_bytes k v

-- a point, by the bit patterns of its coordinates
pub record Point : Type 0 where
  pub x : ℕ
  pub y : ℕ

-- a point is two numbers of 8 bytes
unfoldable pub point_bytes : Order → Point → List ℕ
point_bytes o p = word_bytes o 8 p.x ++ word_bytes o 8 p.y

-- a list of points is one point after another
unfoldable pub points_bytes : Order → List Point → List ℕ
points_bytes o [] = []
points_bytes o (p ∷ ps) = point_bytes o p ++ points_bytes o ps

-- a LineString is its order, the type 2, the number of its points, and its points
unfoldable pub line_bytes : Order → List Point → List ℕ
line_bytes o ps = order_byte o ∷ (word_bytes o 4 2 ++ (word_bytes o 4 (length ps) ++ points_bytes o ps))

-- bit patterns have 64 bits
abbrev pub Patterns : List Point → Type 0
Patterns [] = Unit {0}
Patterns (p ∷ ps) = (p.x < 2 ^ 64) × (p.y < 2 ^ 64) × Patterns ps

-- bs is a LineString of the points ps, from 1 to 1,024 of them, with nothing after it
pub record LineString (bs : List ℕ) (ps : List Point) : Type 0 where
  pub order : Order
  pub bytes : bs ≡ line_bytes order ps
  pub some : 1 ≤ length ps
  pub most : length ps ≤ 1024
  pub patterns : Patterns ps

-- LineStrings one after another, each in a byte order of its own
pub data Members : List ℕ → List (List Point) → Type 0 where
  none : Members [] []
  more : {bs rest : List ℕ} {ps : List Point} {pss : List (List Point)} → LineString bs ps → Members rest pss → Members (bs ++ rest) (ps ∷ pss)

-- what stands before the members: the order, the type 5, and their number
unfoldable pub multi_head : Order → ℕ → List ℕ
multi_head o m = order_byte o ∷ (word_bytes o 4 5 ++ word_bytes o 4 m)

-- bs is a MultiLineString whose members have the points pss, with nothing after it
pub record MultiLineString (bs : List ℕ) (pss : List (List Point)) : Type 0 where
  pub order : Order
  pub rest : List ℕ
  pub bytes : bs ≡ multi_head order (length pss) ++ rest
  pub most : length pss < 2 ^ 32
  pub members : Members rest pss

-- one that is little-endian throughout
unfoldable pub multi_bytes : List (List Point) → List ℕ
multi_bytes pss = multi_head Little (length pss) ++ flat_map (line_bytes Little) pss

-- ---- from bytes to values

-- the number whose bytes, the least significant first, are given
unfoldable pub little_number : List ℕ → ℕ
little_number [] = 0
little_number (b ∷ bs) = b + 256 * little_number bs

-- the same in either order
unfoldable pub number : Order → List ℕ → ℕ
number Big bs = little_number (reverse bs)
number Little bs = little_number bs

-- the number in the k bytes from a position on
unfoldable pub number_at : Order → ℕ → ℕ → List ℕ → ℕ
number_at o k at bs = number o (take k (drop at bs))

-- the n points from a position on
unfoldable pub points_at : Order → ℕ → ℕ → List ℕ → List Point
points_at o zero at bs = []
points_at o (suc n) at bs = record { x = number_at o 8 at bs; y = number_at o 8 (at + 8) bs } ∷ points_at o n (at + 16) bs
