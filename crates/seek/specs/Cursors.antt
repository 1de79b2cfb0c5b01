-- Where a visit stands. A cursor means the tests that are left from there: what is left of the cells, and then what is left of the globals.
-- Definitions only.
use Rattle.std.specs.Prelude.{Ok, Err, Result, ℕ, zero, suc, ◌+◌, ◌-◌, ◌*◌, ◌≤◌, ◌<◌, ◌≡◌, cond, List, [], ◌∷◌, ◌++◌, length, get_or, take, drop, ltb}
use Rattle.refusals.specs.declared.Refusal.{Refusal}
use Rattle.grid.specs.declared.Grid.{Grid}
use Rattle.grid.specs.Domain.{Lines}
use Rattle.tables.specs.Tables.{Tables, cells, list_in, list_of}
use Rattle.seek.specs.declared.Place.{Place}
use Rattle.seek.specs.declared.Place.TheVariants.{Cell, Global}
use Rattle.seek.specs.declared.Cursor.{Cursor}
use Rattle.seek.specs.Tests.{Pair, with_each, pairs, place_of, cell_tests, others, global_tests, tests_of}
use Rattle.seek.specs.Bookmarks.{visit_check, from_check}

-- ---- what is left from a place

-- of a list: entry i with those from j on, and the later rows
unfoldable pub rest_in : Place → List ℕ → ℕ → ℕ → List Pair
rest_in pl xs i j = with_each pl (get_or xs i 0) (drop j xs) ++ pairs pl (drop (suc i) xs)

-- of `left` cells from c on: of the list of c, and of the later cells
unfoldable pub cells_rest : ℕ → List ℕ → List ℕ → ℕ → ℕ → ℕ → ℕ → List Pair
cells_rest cols offsets items zero c i j = []
cells_rest cols offsets items (suc left) c i j =
    rest_in (place_of cols c) (list_in offsets items c) i j ++ cell_tests cols offsets items left (suc c)

-- of `left` globals from position p on: of the lines of p those from k on, and of the later globals
unfoldable pub globals_rest : ℕ → List ℕ → ℕ → ℕ → ℕ → List Pair
globals_rest n globals zero p k = []
globals_rest n globals (suc left) p k =
    with_each (Global p) (get_or globals p 0) (others (take (suc p) globals) (n - k) k) ++ global_tests n globals left (suc p)

-- THE REST from a cursor
unfoldable pub rest_of : Tables → Cursor → List Pair
rest_of t c =
    cells_rest t.cols t.offsets t.items (cells t - c.cell) c.cell c.i c.j
    ++ globals_rest t.lines t.globals (t.global_count - c.p) c.p c.k

-- ---- cursors that fit

-- an entry i of the list of `cell` or beyond, and a later j
pub record PlaceFits (m : ℕ) (items : List ℕ) (cell i j : ℕ) : Type 0 where
  pub at_most : cell ≤ m
  pub later : i < j
  pub small : j ≤ suc (length items)

-- line k of the global at p: the globals before q are below k, and the one at q is not
pub record LineFits (n m : ℕ) (globals : List ℕ) (p q k : ℕ) : Type 0 where
  pub at_most : p ≤ m
  pub q_small : q ≤ p + 1
  pub k_small : k ≤ n
  pub passed : (a : ℕ) → a < q → get_or globals a 0 < k
  pub ahead : p < m → q ≤ p → k ≤ get_or globals q 0

-- lines, a grid and tables that pass their checks, and a cursor that fits them
pub record CursorFits (t : Tables) (c : Cursor) : Type 0 where
  pub in_cells : PlaceFits (cells t) t.items c.cell c.i c.j
  pub in_globals : LineFits t.lines t.global_count t.globals c.p c.q c.k

pub record Ready (ls : Lines) (g : Grid) (t : Tables) (c : Cursor) : Type 0 where
  pub fine : visit_check ls g t ≡ Ok tt
  pub fits : CursorFits t c

-- ---- the cursor of some tests

-- how many entries of a list come before the first that is not below v: where v stands in a list that increases
unfoldable pub rank_of : ℕ → List ℕ → ℕ
rank_of v [] = 0
rank_of v (x ∷ xs) = cond (ltb x v) (suc (rank_of v xs)) 0

-- in cell c: where lines a and b stand in its list
abbrev pub at_cell : Tables → ℕ → ℕ → ℕ → Cursor
at_cell t c a b = record { cell = c; i = rank_of a (list_of t c); j = rank_of b (list_of t c); p = 0; q = 0; k = 0 }

-- where the test of lines a and b stands: in its cell; or past all cells at line b of the global at p, of the globals up to which q are below b
unfoldable pub at_test : Tables → Place → ℕ → ℕ → Cursor
at_test t (Cell row col) a b = at_cell t (row * t.cols + col) a b
at_test t (Global p) a b = record { cell = cells t; i = 0; j = 1; p = p; q = rank_of b (take (suc p) t.globals); k = b }

-- THE CURSOR of some tests: where the first of them stands, or the end
unfoldable pub at_first_test : Tables → List Pair → Cursor
at_first_test t [] = record { cell = cells t; i = 0; j = 1; p = t.global_count; q = 0; k = 0 }
at_first_test t (x ∷ xs) = at_test t x.place x.first x.second

-- ---- the cursor of a bookmark

-- the cursor of the tests from a bookmark on: it fits, they are what is left from it, and it stands at the first of them
pub record CursorIs (ls : Lines) (g : Grid) (t : Tables) (bookmark : ℕ) (c : Cursor) : Type 0 where
  pub ready : Ready ls g t c
  pub at_most : bookmark ≤ length (tests_of t)
  pub rest : rest_of t c ≡ drop bookmark (tests_of t)
  pub at_first : c ≡ at_first_test t (drop bookmark (tests_of t))

-- what is found: the cursor, or why a visit from there is refused
abbrev pub FindIs : Lines → Grid → Tables → ℕ → (Result Cursor Refusal) → Type 0
FindIs ls g t bookmark (Ok c) = CursorIs ls g t bookmark c
FindIs ls g t bookmark (Err r) = from_check ls g t bookmark ≡ Err r
