-- Document 01, "The program", with document 02's two sizes: the lines that it prints, as bytes in ASCII. Definitions only.
use Rattle.std.specs.Prelude.{ℕ, cond, List, [], ◌∷◌, ◌++◌, eqb}
use Rattle.report.specs.Numbers.{in_decimal, hex}

-- each number after a space
unfoldable pub spaced : List ℕ → List ℕ
spaced [] = []
spaced (n ∷ ns) = (32 ∷ in_decimal n) ++ spaced ns

-- a line: a word, what follows it, and the line's end
unfoldable pub line : List ℕ → List ℕ → List ℕ
line word rest = word ++ (rest ++ (10 ∷ []))

-- `grid` cols rows, the bits of cell_width and of cell_height in 16 hex digits each, items, globals
unfoldable pub grid_line : ℕ → ℕ → ℕ → ℕ → ℕ → ℕ → List ℕ
grid_line cols rows width height items globals =
    line (103 ∷ 114 ∷ 105 ∷ 100 ∷ [])
    (spaced (cols ∷ rows ∷ []) ++ ((32 ∷ hex 16 width) ++ ((32 ∷ hex 16 height) ++ spaced (items ∷ globals ∷ []))))

-- `cell` row column and its lines, for a nonempty cell
unfoldable pub cell_line : ℕ → ℕ → List ℕ → List ℕ
cell_line row col [] = []
cell_line row col (l ∷ ls) = line (99 ∷ 101 ∷ 108 ∷ 108 ∷ []) (spaced (row ∷ col ∷ l ∷ ls))

-- `global` and its lines, if any
unfoldable pub global_line : List ℕ → List ℕ
global_line [] = []
global_line (l ∷ ls) = line (103 ∷ 108 ∷ 111 ∷ 98 ∷ 97 ∷ 108 ∷ []) (spaced (l ∷ ls))

-- `visit` tests overlaps
unfoldable pub visit_line : ℕ → ℕ → List ℕ
visit_line tests overlaps = line (118 ∷ 105 ∷ 115 ∷ 105 ∷ 116 ∷ []) (spaced (tests ∷ overlaps ∷ []))

-- `crossings` and how many there are
unfoldable pub crossings_line : ℕ → List ℕ
crossings_line count = line (99 ∷ 114 ∷ 111 ∷ 115 ∷ 115 ∷ 105 ∷ 110 ∷ 103 ∷ 115 ∷ []) (spaced (count ∷ []))

-- `pair` and its two lines
unfoldable pub pair_line : ℕ → ℕ → List ℕ
pair_line first second = line (112 ∷ 97 ∷ 105 ∷ 114 ∷ []) (spaced (first ∷ second ∷ []))

-- `refused` and the number
unfoldable pub refused_line : ℕ → List ℕ
refused_line number = line (114 ∷ 101 ∷ 102 ∷ 117 ∷ 115 ∷ 101 ∷ 100 ∷ []) (spaced (number ∷ []))

-- why a point is dropped: `range` for 1, `repeat` for 2, and else `short`
unfoldable pub reason_word : ℕ → List ℕ
reason_word reason = cond (eqb reason 1) (114 ∷ 97 ∷ 110 ∷ 103 ∷ 101 ∷ []) (cond (eqb reason 2) (114 ∷ 101 ∷ 112 ∷ 101 ∷ 97 ∷ 116 ∷ []) (115 ∷ 104 ∷ 111 ∷ 114 ∷ 116 ∷ []))

-- a dropped point: its member, its number in the member, and why
unfoldable pub dropped_line : ℕ → ℕ → ℕ → List ℕ
dropped_line member point reason = line (in_decimal member) ((32 ∷ in_decimal point) ++ (32 ∷ reason_word reason))
