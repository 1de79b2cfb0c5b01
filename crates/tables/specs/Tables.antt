-- Standing tables, as a build leaves them and a reader is lent them: the lists of the cells and the global lines. Definitions only.
use Rattle.std.specs.Prelude.{ℕ, suc, ◌*◌, cond, ◌&&◌, List, [], length, get_or, take, leb}
use Rattle.std.proofs.Math.Seq.{slice}
use Rattle.grid.specs.Domain.{Lines, count}
use Rattle.grid.specs.declared.Grid.{Grid}

-- the counts of the grid, the number of lines, and the tables themselves
pub record Tables : Type 0 where
  pub cols : ℕ
  pub rows : ℕ
  pub lines : ℕ
  pub offsets : List ℕ
  pub items : List ℕ
  pub globals : List ℕ
  pub global_count : ℕ

abbrev pub tables : Grid → ℕ → List ℕ → List ℕ → List ℕ → ℕ → Tables
tables g n offsets items globals count =
    record {
      cols = g.cols;
      rows = g.rows;
      lines = n;
      offsets = offsets;
      items = items;
      globals = globals;
      global_count = count;
    }

-- tables beside lines: as many lines as there are
abbrev pub beside : Lines → Grid → List ℕ → List ℕ → List ℕ → ℕ → Tables
beside ls g offsets items globals n = tables g (count ls) offsets items globals n

-- the number of cells
abbrev pub cells : Tables → ℕ
cells t = t.rows * t.cols

-- the part of the items that is cell c's list: from its offset to the next
abbrev pub list_in : List ℕ → List ℕ → ℕ → List ℕ
list_in offsets items c = slice (get_or offsets c 0) (get_or offsets (suc c) 0) items

-- the list of cell c where nobody has checked the tables: none if it is no part of the items
unfoldable pub part_in : List ℕ → List ℕ → ℕ → List ℕ
part_in offsets items c =
    cond (leb (get_or offsets c 0) (get_or offsets (suc c) 0) && leb (get_or offsets (suc c) 0) (length items)) (list_in offsets items c) []

abbrev pub list_of : Tables → ℕ → List ℕ
list_of t c = list_in t.offsets t.items c

-- the global lines
abbrev pub globals_of : Tables → List ℕ
globals_of t = take t.global_count t.globals
