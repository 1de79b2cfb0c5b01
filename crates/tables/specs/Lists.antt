-- Document 01, "The build": the lists of the cells, the global lines, and how both are laid out. `W i` is the list of the distinct cells that
-- line i visits, for any walk; n is the number of lines. Definitions only.
use Rattle.std.specs.Prelude.{Bool, true, false, List, [], ◌∷◌, ◌++◌, ℕ, zero, suc, ◌+◌, ◌-◌, ◌<◌, leb, length, replicate}
use Rattle.slices.specs.Lists.{elem, Below, Rising}

-- ---- which lines a cell lists

-- each line's cells are below the number of cells, and increase
pub record Walks (W : ℕ → List ℕ) (n cells : ℕ) : Type 0 where
  pub rises : (i : ℕ) → i < n → Rising 0 (W i)
  pub below : (i : ℕ) → i < n → Below cells (W i)

-- a line with more than 2,048 distinct cells is global
unfoldable pub long : List ℕ → Bool
long cells = leb 2049 (length cells)

-- a list, but where the test holds
abbrev pub none_if : Bool → List ℕ → List ℕ
none_if true xs = []
none_if false xs = xs

-- the cells that line i is counted in: a global line is counted in none
unfoldable pub local : (ℕ → List ℕ) → ℕ → List ℕ
local W i = none_if (long (W i)) (W i)

-- i alone where the test holds
abbrev pub only : Bool → ℕ → List ℕ
only true i = i ∷ []
only false i = []

-- the lines below n that visit the cell c, increasing
unfoldable pub lines_at : (ℕ → List ℕ) → ℕ → ℕ → List ℕ
lines_at W zero c = []
lines_at W (suc i) c = lines_at W i c ++ only (elem c (W i)) i

-- the list of the cell c: the lines below n whose walk visits it and has at most 2,048 distinct cells, increasing
abbrev pub local_lines : (ℕ → List ℕ) → ℕ → ℕ → List ℕ
local_lines W n = lines_at (local W) n

-- the global lines below n, increasing
unfoldable pub global_lines : (ℕ → List ℕ) → ℕ → List ℕ
global_lines W zero = []
global_lines W (suc i) = global_lines W i ++ only (long (W i)) i

-- ---- how the lists are laid out

-- the sum of g over the numbers below n
unfoldable pub sum : (ℕ → ℕ) → ℕ → ℕ
sum g zero = 0
sum g (suc n) = sum g n + g n

-- F 0 ++ F 1 ++ .. ++ F (n - 1)
unfoldable pub concat : (ℕ → List ℕ) → ℕ → List ℕ
concat F zero = []
concat F (suc n) = concat F n ++ F n

-- g 0, g 1, .., g (n - 1)
unfoldable pub tabulate : (ℕ → ℕ) → ℕ → List ℕ
tabulate g zero = []
tabulate g (suc n) = tabulate g n ++ (g n ∷ [])

-- where the list of the cell c begins: a running sum from 0
abbrev pub start : (ℕ → List ℕ) → ℕ → ℕ
start F = sum (λ c. length (F c))

-- the items, in a slice of a length: the lists one after another in row order, and zero beyond
unfoldable pub items_of : (ℕ → List ℕ) → ℕ → ℕ → List ℕ
items_of F cells len = concat F cells ++ replicate (len - start F cells) 0

-- the offsets, in a slice of a length: where each list begins, and where the last ends, and zero beyond
unfoldable pub offsets_of : (ℕ → List ℕ) → ℕ → ℕ → List ℕ
offsets_of F cells len = tabulate (start F) (suc cells) ++ replicate (len - suc cells) 0
