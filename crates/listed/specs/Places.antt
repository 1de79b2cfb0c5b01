-- Where the first test at or after a place stands: in a list, and in the cells. Definitions only.
use Rattle.std.specs.Prelude.{Some, None, Option, ℕ, suc, ◌+◌, ◌-◌, ◌*◌, ◌≤◌, ◌<◌, min, ◌≡◌, Bool, cond, ◌&&◌, List, [], length, get_or, eqb, leb, ltb}
use Rattle.seek.specs.Tests.{Pair}
use Rattle.listed.specs.declared.settle.RowAt.{RowAt}
use Rattle.listed.specs.declared.CellAt.{CellAt}
use Rattle.listed.specs.Lists.{list_by, cells_from}

-- ---- in a list of `len` entries

-- entry i with entry b, if there is one; else the first test of the next row, if it has one
unfoldable pub row_with : ℕ → ℕ → ℕ → (Option RowAt)
row_with len i b = cond (ltb b len) (Some (record { i = i; j = b })) (cond (ltb (i + 2) len) (Some (record { i = (i + 1); j = (i + 2) })) None)

-- the first test at or after entries i and j, of which only a later one is tested with i
unfoldable pub row_at : ℕ → ℕ → ℕ → (Option RowAt)
row_at len i j = row_with len i (cond (ltb i j) j (suc i))

-- at most 32 entries, begun at the start, and room for more pairs than they make
unfoldable pub is_brief : ℕ → ℕ → ℕ → ℕ → Bool
is_brief len i j room = eqb i 0 && (eqb j 1 && (leb len 32 && leb (len * len) room))

-- ---- in the first m cells, of those that the offsets tell of

-- the first cell from a cell on whose offsets are two or more apart: those before it are not; else the end of the cells
pub record NextCell (m : ℕ) (offsets : List ℕ) (cell c : ℕ) : Type 0 where
  pub onward : cell ≤ c
  pub passed : (b : ℕ) → cell ≤ b → b < c → get_or offsets (suc b) 0 < get_or offsets b 0 + 2
  pub stops : c < min m (length offsets - 1) → get_or offsets c 0 + 2 ≤ get_or offsets (suc c) 0
  pub ends : cell < c → c ≤ min m (length offsets - 1)

-- some tests are those that are left from entries a and b of the list of cell c, and there the first of them stands
pub record FirstAt (cols n m : ℕ) (offsets items : List ℕ) (rest : List Pair) (c a b : ℕ) : Type 0 where
  pub inside : c < m
  pub later : a < b
  pub among : b < length (list_by n offsets items c)
  pub is : rest ≡ cells_from cols (list_by n offsets items) (m - c) c a b

-- where the first of some tests stands, or that there is none
abbrev pub LeftAt : ℕ → ℕ → ℕ → List ℕ → List ℕ → List Pair → (Option CellAt) → Type 0
LeftAt cols n m offsets items rest (Some x) = FirstAt cols n m offsets items rest x.cell x.i x.j
LeftAt cols n m offsets items rest None = rest ≡ []
