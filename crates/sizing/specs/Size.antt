-- The first size of the cells, in either sizing, and half of a size. Each float step rounds once, in the written order. Definitions only.
use Rattle.std.specs.Prelude.{ℕ, cond, Float}
use Rattle.std.specs.Float.Ieee.{lt}
use Rattle.numbers.specs.Arithmetic.{◌*₆₄◌, ◌/₆₄◌, whole_float, decimal}
use Rattle.numbers.specs.Order.{greatest_of}
use Rattle.numbers.specs.Root.{root}
use Rattle.sizing.specs.declared.Sizing.{Sizing}
use Rattle.sizing.specs.declared.Sizing.TheVariants.{Square, Axes}
use Rattle.sizing.specs.declared.Extent.{Extent}
use Rattle.sizing.specs.declared.Size.{Size}

-- the largest of v, reach / 1000 and 1e-6
unfoldable pub largest : Float → Float → Float
largest v reach = greatest_of (greatest_of v (reach /₆₄ decimal 1000 1)) (decimal 1 1000000)

-- ---- document 01, "The build": one length for both axes

-- area = width x height; below 1e-9 it becomes the number of lines (1e-9 itself stays)
unfoldable pub area_of : Extent → ℕ → Float
area_of e n =
    let area = e.width *₆₄ e.height in
    cond (lt area (decimal 1 1000000000)) (whole_float n) area

-- the largest of the square root of area / n, max(width, height) / 1000, and 1e-6
unfoldable pub square_side : Extent → ℕ → Float
unfolding largest area_of
square_side e n = largest (root (area_of e n /₆₄ whole_float n)) (greatest_of e.width e.height)

-- ---- document 02, change 6: a length for each axis, from that axis alone

-- with s the square root of the number of lines, the largest of width / s, width / 1000 and 1e-6
unfoldable pub length_on : Float → Float → Float
unfolding largest
length_on width s = largest (width /₆₄ s) width

-- ---- sizes

unfoldable pub first_size : Sizing → Extent → ℕ → Size
unfolding square_side length_on
first_size Square e n = let side = square_side e n in record { cell_width = side; cell_height = side }
first_size Axes e n = let s = root (whole_float n) in record { cell_width = length_on e.width s; cell_height = length_on e.height s }

-- half of a length, and of a size
unfoldable pub half : Float → Float
half v = v /₆₄ decimal 2 1

unfoldable pub half_of : Size → Size
unfolding half
half_of s = record { cell_width = half s.cell_width; cell_height = half s.cell_height }
