-- What the private functions promise, and words for it. Definitions only.
use Rattle.std.specs.Prelude.{Ok, Some, None, Result, Option, ℕ, zero, suc, ◌+◌, ◌-◌, ◌≤◌, ◌<◌, ◌^◌, ◌≡◌, Bool, true, false, cond, List, [], ◌∷◌, ◌++◌, length, get_or, take, drop, leb, ltb}
use Rattle.refusals.specs.declared.Refusal.{Refusal}
use Rattle.grid.specs.declared.Grid.{Grid}
use Rattle.grid.specs.Domain.{Lines}
use Rattle.tables.specs.Tables.{Tables, cells}
use Rattle.tables.specs.InsideFit.{CellsFit, GlobalsFit}
use Rattle.seek.specs.declared.Place.{Place}
use Rattle.seek.specs.declared.Place.TheVariants.{Global}
use Rattle.seek.specs.declared.Cursor.{Cursor}
use Rattle.seek.specs.declared.PairAt.{PairAt}
use Rattle.seek.specs.Tests.{Pair, pairs, place_of, cell_tests, others, global_tests, tests_of}
use Rattle.seek.specs.Bookmarks.{first_of}
use Rattle.seek.specs.Cursors.{LineFits, CursorIs}

-- ---- runs of lines

-- `left` lines from k on
unfoldable pub numbers : ℕ → ℕ → List ℕ
numbers zero k = []
numbers (suc left) k = k ∷ numbers left (suc k)

-- the line before which a run of lines of the global at p ends, where the next to be passed over is the global at q
unfoldable pub stop_if : Bool → ℕ → ℕ → ℕ
stop_if true global n = global
stop_if false global n = n

unfoldable pub stop_of : ℕ → List ℕ → ℕ → ℕ → ℕ
stop_of n globals p q = stop_if (leb q p) (get_or globals q 0) n

-- ---- seeking a bookmark

-- how many tests a list of n lines has: n (n - 1) / 2
unfoldable pub tri : ℕ → ℕ
tri zero = 0
tri (suc n) = n + tri n

-- whole cells are passed
pub record CellSought (m : ℕ) (offsets items : List ℕ) (left at left' : ℕ) : Type 0 where
  pub at_most : at ≤ m
  pub same : (cols : ℕ) (tail : List Pair) → drop left (cell_tests cols offsets items m 0 ++ tail) ≡ drop left' (cell_tests cols offsets items (m - at) at ++ tail)
  pub counts : (cols : ℕ) → left + length (cell_tests cols offsets items (m - at) at) ≡ left' + length (cell_tests cols offsets items m 0)
  pub inside : at < m → left' < tri (get_or offsets (suc at) 0 - get_or offsets at 0)

-- whole rows of a list of `len` lines are passed
pub record RowSought (len left at left' : ℕ) : Type 0 where
  pub within : at + 1 + left' < len
  pub same : (xs : List ℕ) (pl : Place) (tail : List Pair) → length xs ≡ len
      → drop left (pairs pl xs ++ tail) ≡ drop left' (pairs pl (drop at xs) ++ tail)

-- whole globals are passed
pub record GlobalSought (n m : ℕ) (globals : List ℕ) (left at left' : ℕ) : Type 0 where
  pub at_most : at ≤ m
  pub same : drop left (global_tests n globals m 0) ≡ drop left' (global_tests n globals (m - at) at)
  pub counts : left + length (global_tests n globals (m - at) at) ≡ left' + length (global_tests n globals m 0)
  pub inside : at < m → left' + suc at < n

-- lines of the global at p are passed, and line k is tested
pub record LineSought (n m : ℕ) (globals : List ℕ) (p left q k : ℕ) : Type 0 where
  pub fits : LineFits n m globals p q k
  pub one : k < stop_of n globals p q
  pub same : drop left (others (take (suc p) globals) n 0) ≡ others (take (suc p) globals) (n - k) k

pub record SoughtAsks (n m : ℕ) (globals : List ℕ) (p left : ℕ) : Type 0 where
  pub table : GlobalsFit n m globals
  pub inside : p < m
  pub small : left + suc p < n

-- ---- the test at a cursor

-- a cursor that stands at a test of tables that fit, or at their end
pub record PairAtAsks (m : ℕ) (offsets items globals : List ℕ) (count : ℕ) (c : Cursor) : Type 0 where
  pub table : CellsFit m offsets items
  pub few : m < 2 ^ 32
  pub long : count ≤ length globals
  pub later : c.i < c.j
  pub inside : c.cell < m → c.j < get_or offsets (suc c.cell) 0 - get_or offsets c.cell 0

-- as it is read off the tables
unfoldable pub pair_of : ℕ → ℕ → List ℕ → List ℕ → List ℕ → ℕ → Cursor → (Result (Option PairAt) Refusal)
pair_of m cols offsets items globals count c =
    cond (ltb c.cell m)
    (Ok (Some (record { place = (place_of cols c.cell); first = (get_or items (get_or offsets c.cell 0 + c.i) 0); second = (get_or items (get_or offsets c.cell 0 + c.j) 0) })))
    (cond (ltb c.p count) (Ok (Some (record { place = (Global c.p); first = (get_or globals c.p 0); second = c.k }))) (Ok None))

-- the cursor of a bookmark, and the test that stands there
pub record SoughtAt (ls : Lines) (g : Grid) (t : Tables) (bookmark : ℕ) (c : Cursor) : Type 0 where
  pub is : CursorIs ls g t bookmark c
  pub asks : PairAtAsks (cells t) t.offsets t.items t.globals t.global_count c
  pub reads : pair_of (cells t) t.cols t.offsets t.items t.globals t.global_count c ≡ first_of (drop bookmark (tests_of t))

abbrev pub SeekIs : Lines → Grid → Tables → ℕ → (Option Cursor) → Type 0
SeekIs ls g t bookmark (Some c) = SoughtAt ls g t bookmark c
SeekIs ls g t bookmark None = length (tests_of t) < bookmark
