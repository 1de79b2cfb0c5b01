-- A grid as 64-bit words. Definitions only.
use Rattle.std.specs.Prelude.{ℕ, ◌-◌, ◌^◌, min, List, get_or}
use Rattle.std.specs.Float.{binary64}
use Rattle.std.specs.Float.Ieee.{of_bits}
use Rattle.grid.specs.declared.Grid.{Grid}

-- how many words say a grid
abbrev pub grid_words : ℕ
grid_words = 6

-- a count by its word: one that 32 bits do not hold is the largest that they do, which is no fit grid's
unfoldable pub count_by : ℕ → ℕ
count_by word = min word (2 ^ 32 - 1)

-- a grid by its words: the bit patterns of min_x, min_y, cell_width and cell_height, cols, rows. A word that is not there is 0, and further words are not read.
unfoldable pub grid_by : List ℕ → Grid
grid_by words = record {
  min_x = of_bits binary64 (get_or words 0 0);
  min_y = of_bits binary64 (get_or words 1 0);
  cell_width = of_bits binary64 (get_or words 2 0);
  cell_height = of_bits binary64 (get_or words 3 0);
  cols = count_by (get_or words 4 0);
  rows = count_by (get_or words 5 0);
}
