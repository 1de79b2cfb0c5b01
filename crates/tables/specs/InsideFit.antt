-- What private functions ask of tables: the lists of cells are parts of the items, and the globals increase. Tables that fit are such: `fit_cells` and
-- `fit_globals` in `proofs/Parts.antt`. A reader of tables needs none of it. Definitions only.
use Rattle.std.specs.Prelude.{ℕ, suc, ◌≤◌, ◌<◌, List, length, get_or}

-- the lists of m cells are parts of the items: m + 1 offsets that never fall and stay within the items
pub record CellsFit (m : ℕ) (offsets items : List ℕ) : Type 0 where
  pub long : m < length offsets
  pub rises : (c : ℕ) → c < m → get_or offsets c 0 ≤ get_or offsets (suc c) 0
  pub within : (c : ℕ) → c ≤ m → get_or offsets c 0 ≤ length items

-- one of the cells whose lists are parts of the items
pub record CellIn (offsets items : List ℕ) (c : ℕ) : Type 0 where
  pub m : ℕ
  pub fits : CellsFit m offsets items
  pub inside : c < m

-- the first m globals increase below n
pub record GlobalsFit (n m : ℕ) (globals : List ℕ) : Type 0 where
  pub long : m ≤ length globals
  pub rises : (a b : ℕ) → a < b → b < m → get_or globals a 0 < get_or globals b 0
  pub below : (a : ℕ) → a < m → get_or globals a 0 < n
