-- The covering rule, on whole numbers. A line goes from its lower end to its upper one, both in fine units, 2^20 to a cell.
-- 1. Where both ends are in one row: the columns from that of one end to that of the other.
-- 2. Else, in each row from the lower end's to the upper end's: of the line's heights in that row, widened by 3 units on either side, the least and the
--    greatest; how far sideways the line has come at these two; and the columns from the lesser of the two places, less 3 units, to the greater, plus 5,
--    neither beyond the ends.
-- A coordinate in fine units is off by less than 3 from where the exact point is, and a sideways way is short by less than 2: that is why 3 and 5.
-- Definitions only.
use Rattle.std.specs.Prelude.{ℕ, zero, suc, ◌+◌, ◌-◌, ◌*◌, ◌/◌, min, max, cond, List, [], ◌∷◌, ◌++◌, leb}
use Rattle.cover.specs.declared.Ends.{Ends}

-- the cell of a fine coordinate, of n cells: what is beyond the last cell is in it
abbrev pub fine_cell : ℕ → ℕ → ℕ
fine_cell n fine = min (fine / 1048576) (n - 1)

-- ---- heights

-- the least height of the line in the row r: 3 units below the row, but not below the lower end
unfoldable pub bottom_of : Ends → ℕ → ℕ
bottom_of e r = max (r * 1048576 - 3) e.from_y

-- the greatest: 3 units above the row, but not above the upper end; in the last row it is that end
unfoldable pub top_of : Ends → ℕ → ℕ → ℕ
top_of e last r = cond (leb last r) e.to_y (min ((r + 1) * 1048576 + 3) e.to_y)

-- ---- sideways

-- how far the line goes sideways in all, and for a unit of height, in 2^-32 of a unit
abbrev pub span_of : Ends → ℕ
span_of e = (e.to_x - e.from_x) + (e.from_x - e.to_x)

unfoldable pub slope_of : Ends → ℕ
slope_of e = span_of e * 4294967296 / (e.to_y - e.from_y)

-- how far it has come sideways at the height y: at most what is exact, and less than 2 short of it
unfoldable pub aside_of : Ends → ℕ → ℕ
unfolding slope_of
aside_of e y = (y - e.from_y) * slope_of e / 4294967296

-- the least and the greatest place of a row, of a line that has come `near` at its bottom and `far` at its top
unfoldable pub left_of : Ends → ℕ → ℕ → ℕ
left_of e near far = cond (leb e.from_x e.to_x) (max (e.from_x + near - 3) e.from_x) (max (e.from_x - (far + 5)) e.to_x)

unfoldable pub right_of : Ends → ℕ → ℕ → ℕ
right_of e near far = cond (leb e.from_x e.to_x) (min (e.from_x + far + 5) e.to_x) (min (e.from_x + 3 - near) e.from_x)

-- ---- columns

-- the rows of the two ends
abbrev pub first_row : ℕ → Ends → ℕ
first_row rows e = fine_cell rows e.from_y

abbrev pub last_row : ℕ → Ends → ℕ
last_row rows e = fine_cell rows e.to_y

-- how far the line has come at the bottom and at the top of the row r
abbrev pub near_in : Ends → ℕ → ℕ
near_in e r = aside_of e (bottom_of e r)

abbrev pub far_in : ℕ → Ends → ℕ → ℕ
far_in rows e r = aside_of e (top_of e (last_row rows e) r)

-- the first and the last column of the row r
unfoldable pub first_col : ℕ → ℕ → Ends → ℕ → ℕ
first_col cols rows e r =
    fine_cell cols (cond (leb (last_row rows e) (first_row rows e)) (min e.from_x e.to_x) (left_of e (near_in e r) (far_in rows e r)))

unfoldable pub last_col : ℕ → ℕ → Ends → ℕ → ℕ
last_col cols rows e r =
    fine_cell cols (cond (leb (last_row rows e) (first_row rows e)) (max e.from_x e.to_x) (right_of e (near_in e r) (far_in rows e r)))

-- ---- cells

-- n numbers from k on
unfoldable pub run : ℕ → ℕ → List ℕ
run zero k = []
run (suc n) k = k ∷ run n (k + 1)

-- the cells of the row r, and of n rows from r on; a cell's number counts along the rows
unfoldable pub row_cells : ℕ → ℕ → Ends → ℕ → List ℕ
unfolding run first_col last_col
row_cells cols rows e r = run (last_col cols rows e r + 1 - first_col cols rows e r) (r * cols + first_col cols rows e r)

unfoldable pub rows_from : ℕ → ℕ → ℕ → Ends → ℕ → List ℕ
unfolding row_cells
rows_from zero cols rows e r = []
rows_from (suc n) cols rows e r = row_cells cols rows e r ++ rows_from n cols rows e (r + 1)

-- from the row of the lower end to that of the upper one
unfoldable pub cells_between : ℕ → ℕ → Ends → List ℕ
unfolding rows_from
cells_between cols rows e = rows_from (last_row rows e + 1 - first_row rows e) cols rows e (first_row rows e)
