-- What the private functions promise. Definitions only.
use Rattle.std.specs.Prelude.{Ok, Some, None, Result, Option, ℕ, suc, ◌+◌, ◌-◌, ◌≤◌, ◌<◌, ◌^◌, ◌≡◌, List, [], ◌∷◌, ◌++◌, length, get_or, take, drop, replicate}
use Rattle.refusals.specs.declared.Refusal.{Refusal}
use Rattle.visit.specs.declared.Test.{Test}
use Rattle.visit.specs.declared.Tally.{Tally}
use Rattle.slices.specs.Lists.{Below}
use Rattle.grid.specs.declared.Grid.{Grid}
use Rattle.grid.specs.Domain.{Lines, count, segment_at, lines_check}
use Rattle.grid.specs.Boxes.{box_of}
use Rattle.tables.specs.Tables.{Tables, list_in}
use Rattle.seek.specs.declared.Place.{Place}
use Rattle.seek.specs.declared.Place.TheVariants.{Global}
use Rattle.seek.specs.declared.Cursor.{Cursor}
use Rattle.seek.specs.Tests.{Pair, with_each, place_of}
use Rattle.visit.specs.Places.{number_in, number_of}
use Rattle.seek.specs.Cursors.{cells_rest, globals_rest, rest_of, PlaceFits, LineFits, Ready}
use Rattle.tables.specs.InsideFit.{CellsFit, GlobalsFit}
use Rattle.seek.specs.Inside.{numbers, stop_of}
use Rattle.visit.specs.declared.cursor.CellAt.{CellAt}
use Rattle.visit.specs.declared.cursor.GlobalAt.{GlobalAt}
use Rattle.visit.specs.declared.scan.Row.{Row}
use Rattle.visit.specs.declared.scan.ListEnd.{ListEnd}
use Rattle.visit.specs.declared.scan.LinesEnd.{LinesEnd}
use Rattle.visit.specs.declared.scan.Ran.{Ran}
use Rattle.visit.specs.Batches.{made, handed, firsts, seconds, place_numbers}
use Rattle.visit.specs.Entries.{test_of, batch_tests, pairs_left, BatchIs}

-- ---- lines

-- lines that pass their checks, and one of them
pub record LineAsks (ls : Lines) (i : ℕ) : Type 0 where
  pub fine : lines_check ls ≡ Ok tt
  pub one : i < count ls

-- ---- places in the cells

pub record CellAsks (m : ℕ) (offsets items : List ℕ) (cell i j : ℕ) : Type 0 where
  pub table : CellsFit m offsets items
  pub place : PlaceFits m items cell i j

-- the place that was found: the same is left, and a pair stands there, of a list that is the items from `from` to before `to`
pub record CellIs (m : ℕ) (offsets items : List ℕ) (cell i j cell' i' j' from to : ℕ) : Type 0 where
  pub same : (cols : ℕ) → cells_rest cols offsets items (m - cell) cell i j ≡ cells_rest cols offsets items (m - cell') cell' i' j'
  pub fits : PlaceFits m items cell' i' j'
  pub inside : cell' < m
  pub begins : from ≡ get_or offsets cell' 0
  pub ends : to ≡ get_or offsets (suc cell') 0
  pub one : j' < to - from

abbrev pub CellFound : ℕ → List ℕ → List ℕ → ℕ → ℕ → ℕ → (Option CellAt) → Type 0
CellFound m offsets items cell i j (Some a) = CellIs m offsets items cell i j a.cell a.i a.j a.from a.to
CellFound m offsets items cell i j None = (cols : ℕ) → cells_rest cols offsets items (m - cell) cell i j ≡ []

-- ---- places among the globals

pub record StopAsks (globals : List ℕ) (p q : ℕ) : Type 0 where
  pub inside : q ≤ p → q < length globals

pub record GlobalAsks (n m : ℕ) (globals : List ℕ) (p q k : ℕ) : Type 0 where
  pub table : GlobalsFit n m globals
  pub place : LineFits n m globals p q k

-- the run that was found: the same is left, and line k' to before `stop` are tested
pub record GlobalIs (n m : ℕ) (globals : List ℕ) (p q k p' q' k' stop : ℕ) : Type 0 where
  pub same : globals_rest n globals (m - p) p k ≡ globals_rest n globals (m - p') p' k'
  pub fits : LineFits n m globals p' q' k'
  pub inside : p' < m
  pub one : k' < stop
  pub stops : stop ≡ stop_of n globals p' q'

abbrev pub GlobalFound : ℕ → ℕ → List ℕ → ℕ → ℕ → ℕ → (Option GlobalAt) → Type 0
GlobalFound n m globals p q k (Some a) = GlobalIs n m globals p q k a.p a.q a.k a.stop
GlobalFound n m globals p q k None = globals_rest n globals (m - p) p k ≡ []

-- ---- rows

abbrev pub row_of : Lines → Place → ℕ → Row
row_of ls pl a = record { place = pl; first = a; bounds = box_of (segment_at ls a) }

-- a row holds its first line's box
pub record RowAsks (ls : Lines) (row : Row) : Type 0 where
  pub fine : lines_check ls ≡ Ok tt
  pub held : row.bounds ≡ box_of (segment_at ls row.first)

-- the first of the tests that are left, or the end mark
unfoldable pub next_step : Lines → List Pair → (Option Test)
next_step ls [] = None
next_step ls (p ∷ ps) = Some (test_of ls p)

pub record TestAsks (ls : Lines) (row : Row) (second : ℕ) : Type 0 where
  pub row_fits : RowAsks ls row
  pub one : second < count ls

pub record TestInAsks (ls : Lines) (row : Row) (xs : List ℕ) : Type 0 where
  pub row_fits : RowAsks ls row
  pub below : Below (count ls) xs

pub record TestBeforeAsks (ls : Lines) (row : Row) (stop : ℕ) : Type 0 where
  pub row_fits : RowAsks ls row
  pub below : stop ≤ count ls

-- ---- what a run has made

-- From where `rest` was left and `hits` pairs stood in the outputs, to where rest' is left and hits' stand there, `steps` tests were made:
-- a batch of the one is that of the other, with what is written and made in front.
pub record TestsMoved (ls : Lines) (rest rest' : List Pair) (steps room : ℕ) (fs ss : List ℕ) (hits : ℕ) (fs' ss' : List ℕ) (hits' : ℕ) : Type 0 where
  pub made_is : length (made ls rest (room - hits)) ≡ steps + length (made ls rest' (room - hits'))
  pub firsts_are : take hits fs ++ firsts (handed ls rest (room - hits)) ≡ take hits' fs' ++ firsts (handed ls rest' (room - hits'))
  pub seconds_are : take hits ss ++ seconds (handed ls rest (room - hits)) ≡ take hits' ss' ++ seconds (handed ls rest' (room - hits'))
  pub counts : steps + length rest' ≡ length rest
  pub in_room : hits' ≤ room
  pub first_long : length fs' ≡ length fs
  pub second_long : length ss' ≡ length ss

-- of a row, all of whose tests are at `pl`: what is handed out between `hits` and hits' was tested there
pub record HandedAt (ls : Lines) (pl : Place) (rest rest' : List Pair) (room hits hits' : ℕ) : Type 0 where
  pub rises : hits ≤ hits'
  pub handed_are : (number : Place → ℕ)
      → place_numbers number (handed ls rest (room - hits)) ≡ replicate (hits' - hits) (number pl) ++ place_numbers number (handed ls rest' (room - hits'))

-- beside `Moved`: a slice that is as long as the outputs holds the numbers of the places; one of another length has no meaning
pub record PlacesWritten (ls : Lines) (number : Place → ℕ) (rest rest' : List Pair) (room : ℕ) (ps : List ℕ) (hits : ℕ) (ps' : List ℕ) (hits' : ℕ) : Type 0 where
  pub places_are : length ps ≡ room
      → take hits ps ++ place_numbers number (handed ls rest (room - hits)) ≡ take hits' ps' ++ place_numbers number (handed ls rest' (room - hits'))
  pub place_long : length ps' ≡ length ps

-- v is put at the entries from `from` to before `to`, where the slice has them
pub record PutIs (ps : List ℕ) (from to v : ℕ) (ps' : List ℕ) : Type 0 where
  pub put : from ≤ to → to ≤ length ps → take to ps' ≡ take from ps ++ replicate (to - from) v
  pub long : length ps' ≡ length ps

-- the outputs have one length, and `hits` pairs stand in them
pub record OutputsAsk (fs ss : List ℕ) (hits : ℕ) : Type 0 where
  pub same : length ss ≡ length fs
  pub in_room : hits ≤ length fs

pub record ListAsks (ls : Lines) (row : Row) (xs : List ℕ) (j : ℕ) (fs ss : List ℕ) (hits : ℕ) : Type 0 where
  pub row_fits : RowAsks ls row
  pub below : Below (count ls) xs
  pub at : j ≤ length xs
  pub outputs : OutputsAsk fs ss hits

-- a row of a list, from its entry j on
pub record InList (ls : Lines) (row : Row) (xs : List ℕ) (j : ℕ) (fs ss : List ℕ) (hits : ℕ) (fs' ss' : List ℕ) (r : ListEnd) : Type 0 where
  pub from : j ≤ r.j
  pub to : r.j ≤ length xs
  pub moved : (later : List Pair)
      → TestsMoved ls (with_each row.place row.first (drop j xs) ++ later) (with_each row.place row.first (drop r.j xs) ++ later) (r.j - j) (length fs) fs ss hits fs' ss' r.hits
  pub handed_at : (later : List Pair)
      → HandedAt ls row.place (with_each row.place row.first (drop j xs) ++ later) (with_each row.place row.first (drop r.j xs) ++ later) (length fs) hits r.hits
  pub some : hits < length fs → j < length xs → j < r.j

pub record LinesAsk (ls : Lines) (row : Row) (k stop : ℕ) (fs ss : List ℕ) (hits : ℕ) : Type 0 where
  pub row_fits : RowAsks ls row
  pub below : stop ≤ count ls
  pub at : k ≤ stop
  pub outputs : OutputsAsk fs ss hits

-- a row of lines, from line k to before `stop`
pub record InLines (ls : Lines) (row : Row) (k stop : ℕ) (fs ss : List ℕ) (hits : ℕ) (fs' ss' : List ℕ) (r : LinesEnd) : Type 0 where
  pub from : k ≤ r.k
  pub to : r.k ≤ stop
  pub moved : (later : List Pair)
      → TestsMoved ls (with_each row.place row.first (numbers (stop - k) k) ++ later) (with_each row.place row.first (numbers (stop - r.k) r.k) ++ later) (r.k - k) (length fs) fs ss hits fs' ss' r.hits
  pub handed_at : (later : List Pair)
      → HandedAt ls row.place (with_each row.place row.first (numbers (stop - k) k) ++ later) (with_each row.place row.first (numbers (stop - r.k) r.k) ++ later) (length fs) hits r.hits
  pub some : hits < length fs → k < stop → k < r.k

-- ---- rows with their places

-- the entries from `from` to before `to`
abbrev pub part : List ℕ → ℕ → ℕ → List ℕ
part xs from to = take (to - from) (drop from xs)

-- a list as a part of the items, and two of its entries
pub record CellRowAsks (ls : Lines) (cols cell : ℕ) (items : List ℕ) (from to i j : ℕ) (fs ss : List ℕ) (hits : ℕ) : Type 0 where
  pub fine : lines_check ls ≡ Ok tt
  pub wide : 0 < cols
  pub few : cell < 2 ^ 32
  pub rises : from ≤ to
  pub within : to ≤ length items
  pub below : Below (count ls) (part items from to)
  pub one : i < length (part items from to)
  pub at : j ≤ length (part items from to)
  pub outputs : OutputsAsk fs ss hits

-- row i of the list xs of a cell, and its number beside what is handed out
pub record InCellRow (ls : Lines) (cols cell : ℕ) (xs : List ℕ) (i j : ℕ) (fs ss ps : List ℕ) (hits : ℕ) (fs' ss' ps' : List ℕ) (r : ListEnd) : Type 0 where
  pub in_list : InList ls (row_of ls (place_of cols cell) (get_or xs i 0)) xs j fs ss hits fs' ss' r
  pub put : PutIs ps hits r.hits cell ps'

pub record GlobalRowAsks (ls : Lines) (cells : ℕ) (globals : List ℕ) (p k stop : ℕ) (fs ss : List ℕ) (hits : ℕ) : Type 0 where
  pub line : LineAsks ls (get_or globals p 0)
  pub one : p < length globals
  pub few : cells + p < 2 ^ 32
  pub below : stop ≤ count ls
  pub at : k ≤ stop
  pub outputs : OutputsAsk fs ss hits

-- a run of global p, and the number of its place beside what is handed out
pub record InGlobalRow (ls : Lines) (cells : ℕ) (globals : List ℕ) (p k stop : ℕ) (fs ss ps : List ℕ) (hits : ℕ) (fs' ss' ps' : List ℕ) (r : LinesEnd) : Type 0 where
  pub in_lines : InLines ls (row_of ls (Global p) (get_or globals p 0)) k stop fs ss hits fs' ss' r
  pub put : PutIs ps hits r.hits (cells + p) ps'

-- ---- runs

pub record RunAsks (ls : Lines) (g : Grid) (t : Tables) (c : Cursor) (fs ss : List ℕ) : Type 0 where
  pub ready : Ready ls g t c
  pub same : length ss ≡ length fs
  pub small : length (rest_of t c) < 2 ^ 64

-- m cells in rows of `cols`, and a place in them
pub record CellsAsk (ls : Lines) (cols m : ℕ) (offsets items : List ℕ) (cell i j : ℕ) (fs ss : List ℕ) : Type 0 where
  pub fine : lines_check ls ≡ Ok tt
  pub table : CellsFit m offsets items
  pub below : (c : ℕ) → c < m → Below (count ls) (list_in offsets items c)
  pub wide : 0 < m → 0 < cols
  pub few : m < 2 ^ 32
  pub place : PlaceFits m items cell i j
  pub same : length ss ≡ length fs
  pub small : length (cells_rest cols offsets items (m - cell) cell i j) < 2 ^ 64

-- a run through the cells: where room is left, none of their tests is
pub record CellsRan (ls : Lines) (cols m : ℕ) (offsets items : List ℕ) (cell i j : ℕ) (fs ss ps fs' ss' ps' : List ℕ) (r : Ran) : Type 0 where
  pub rest : List Pair
  pub moved : (later : List Pair) → TestsMoved ls (cells_rest cols offsets items (m - cell) cell i j ++ later) (rest ++ later) r.tests (length fs) fs ss 0 fs' ss' r.hits
  pub placed : (later : List Pair) → PlacesWritten ls (number_in cols m) (cells_rest cols offsets items (m - cell) cell i j ++ later) (rest ++ later) (length fs) ps 0 ps' r.hits
  pub ends : r.hits < length fs → rest ≡ []

-- m globals after `cells` cells, and a place among them
pub record GlobalsAsk (ls : Lines) (cells m : ℕ) (globals : List ℕ) (p q k : ℕ) (fs ss : List ℕ) (hits : ℕ) : Type 0 where
  pub fine : lines_check ls ≡ Ok tt
  pub place : GlobalAsks (count ls) m globals p q k
  pub outputs : OutputsAsk fs ss hits
  pub small : length (globals_rest (count ls) globals (m - p) p k) < 2 ^ 64
  pub few : cells + m < 2 ^ 32

-- a run through the globals
pub record GlobalsRan (ls : Lines) (cells m : ℕ) (globals : List ℕ) (p k : ℕ) (fs ss ps : List ℕ) (hits : ℕ) (fs' ss' ps' : List ℕ) (r : Ran) : Type 0 where
  pub rest : List Pair
  pub moved : TestsMoved ls (globals_rest (count ls) globals (m - p) p k) rest r.tests (length fs) fs ss hits fs' ss' r.hits
  pub placed : (cols : ℕ) → PlacesWritten ls (number_in cols cells) (globals_rest (count ls) globals (m - p) p k) rest (length fs) ps hits ps' r.hits
  pub ends : r.hits < length fs → rest ≡ []

-- a run from a cursor: it has made what a batch makes of the rest
pub record RanAll (ls : Lines) (t : Tables) (c : Cursor) (fs ss ps fs' ss' ps' : List ℕ) (r : Ran) : Type 0 where
  pub tests : r.tests ≡ length (made ls (rest_of t c) (length fs))
  pub most : r.tests ≤ length (rest_of t c)
  pub hits : r.hits ≡ length (handed ls (rest_of t c) (length fs))
  pub first_is : take r.hits fs' ≡ firsts (handed ls (rest_of t c) (length fs))
  pub second_is : take r.hits ss' ≡ seconds (handed ls (rest_of t c) (length fs))
  pub places_are : length ps ≡ length fs → take r.hits ps' ≡ place_numbers (number_of t) (handed ls (rest_of t c) (length fs))
  pub first_long : length fs' ≡ length fs
  pub second_long : length ss' ≡ length ss
  pub place_long : length ps' ≡ length ps

-- what both batches make: a batch, and the places of its pairs in a slice that is as long as the outputs
pub record BatchMade (ls : Lines) (g : Grid) (t : Tables) (b : ℕ) (first second places first' second' places' : List ℕ) (r : (Result Tally Refusal)) : Type 0 where
  pub is : BatchIs ls g t b first second first' second' r
  pub places_are : length places ≡ length first → places' ≡ pairs_left ls (length first) (place_numbers (number_of t)) (batch_tests ls g t b first second) places
