-- What the private functions promise. Definitions only.
use Rattle.std.specs.Prelude.{Ok, Some, None, Option, ℕ, ◌+◌, ◌-◌, ◌≤◌, ◌<◌, ◌^◌, ◌≡◌, cond, List, [], ◌++◌, length, get_or, take, drop, ltb}
use Rattle.refusals.specs.Refusals.{zero_beyond}
use Rattle.grid.specs.Domain.{Lines, count, Alike}
use Rattle.tables.specs.Tables.{Tables}
use Rattle.tables.specs.Fit.{Increasing}
use Rattle.seek.specs.declared.Place.{Place}
use Rattle.seek.specs.declared.Place.TheVariants as place
use Rattle.seek.specs.Tests.{Pair, with_each}
use Rattle.seek.specs.Inside.{numbers}
use Rattle.seek.specs.Cursors.{LineFits}
use Rattle.visit.specs.Inside.{TestsMoved, GlobalAsks, GlobalIs}
use Rattle.visit.specs.Batches.{made, handed, firsts, seconds}
use Rattle.listed.specs.Lists.{list_by, cells_from}
use Rattle.listed.specs.Places.{LeftAt}
use Rattle.through.specs.Runs.{outputs_lines_check}
use Rattle.through.specs.Inside.{Goes, Lent}
use Rattle.resume.specs.declared.settle.GlobalAt.{GlobalAt}
use Rattle.resume.specs.declared.globals.GlobalsRan.{GlobalsRan}
use Rattle.resume.specs.declared.nexts.Ran.{Ran}
use Rattle.resume.specs.declared.Cursor.{Cursor}
use Rattle.resume.specs.declared.Went.{Went}
use Rattle.resume.specs.AsTheyAre.{cells_to_look, globals_as}
use Rattle.resume.specs.Cursors.{globals_from, left_from}
use Rattle.resume.specs.Answers.{went_of}

-- zero at each entry after the one behind `hits` others
pub record ZeroAfter (hits : ℕ) (xs : List ℕ) : Type 0 where
  pub each : (u : ℕ) → hits < u → get_or xs u 0 ≡ 0

-- ---- one line with many from another on

pub record LinesAsk (ls : Lines) (line from many : ℕ) (fs ss : List ℕ) (hits : ℕ) : Type 0 where
  pub alike : Alike ls
  pub one : line < count ls
  pub below : from + many ≤ count ls
  pub few : count ls < 2 ^ 32
  pub same : length ss ≡ length fs
  pub room : hits + many ≤ length fs

-- the first m are done
pub record LinesScanned (ls : Lines) (line from many m : ℕ) (fs ss : List ℕ) (hits : ℕ) (fs' ss' : List ℕ) (hits' : ℕ) : Type 0 where
  pub moved : (pl : Place) (later : List Pair)
      → TestsMoved ls (with_each pl line (numbers many from) ++ later) (with_each pl line (numbers (many - m) (from + m)) ++ later) m (length fs) fs ss hits fs' ss' hits'
  pub most : hits' ≤ hits + m
  pub first_long : length fs' ≡ length fs
  pub second_long : length ss' ≡ length ss
  pub first_zero : ZeroAfter hits fs → ZeroAfter hits' fs'
  pub second_zero : ZeroAfter hits ss → ZeroAfter hits' ss'

-- ---- the globals

abbrev pub GlobalFound : ℕ → List ℕ → ℕ → ℕ → ℕ → (Option GlobalAt) → Type 0
GlobalFound n globals p q k (Some a) = GlobalIs n (length globals) globals p q k a.p a.q a.k a.stop
GlobalFound n globals p q k None = globals_from n globals p k ≡ []

-- the globals up to position p that are below line k are those before q
pub record Passed (globals : List ℕ) (p k q : ℕ) : Type 0 where
  pub q_small : q ≤ p + 1
  pub passed : (a : ℕ) → a < q → get_or globals a 0 < k
  pub ahead : p < length globals → q ≤ p → k ≤ get_or globals q 0

pub record GlobalsAsk (ls : Lines) (globals : List ℕ) (p q k : ℕ) (fs ss : List ℕ) (hits : ℕ) : Type 0 where
  pub lent : Lent ls fs ss hits
  pub few : count ls < 2 ^ 32
  pub place : GlobalAsks (count ls) (length globals) globals p q k
  pub small : length (globals_from (count ls) globals p k) < 2 ^ 64

pub record GlobalsRanIs (ls : Lines) (globals : List ℕ) (p k : ℕ) (fs ss : List ℕ) (hits : ℕ) (fs' ss' : List ℕ) (r : GlobalsRan) : Type 0 where
  pub place : LineFits (count ls) (length globals) globals r.p r.q r.k
  pub goes : Goes ls (globals_from (count ls) globals p k) (globals_from (count ls) globals r.p r.k) r.tests (length fs) fs ss hits fs' ss' r.hits
  pub ends : r.hits < length fs → globals_from (count ls) globals r.p r.k ≡ []
  pub first_zero : ZeroAfter hits fs → ZeroAfter r.hits fs'
  pub second_zero : ZeroAfter hits ss → ZeroAfter r.hits ss'

-- ---- a place in the cells and one among the globals

pub record SettleAsks (t : Tables) (m : ℕ) (globals : List ℕ) (p q k : ℕ) : Type 0 where
  pub reach_is : m ≡ cells_to_look t
  pub globals_are : globals ≡ globals_as t
  pub place : GlobalAsks t.lines (length globals) globals p q k

-- lines and outputs that `next` does not refuse
pub record GoAsks (ls : Lines) (fs ss : List ℕ) : Type 0 where
  pub fine : outputs_lines_check ls fs ss ≡ Ok tt
  pub alike : Alike ls
  pub few : count ls ≤ 65536
  pub same : length ss ≡ length fs

-- both runs: m cells, and globals that increase
pub record RunAsks (ls : Lines) (m : ℕ) (globals fs ss : List ℕ) : Type 0 where
  pub asks : GoAsks ls fs ss
  pub most : m ≤ 1002001
  pub increase : Increasing (count ls) globals

-- the tests that are left from a cursor, as a run is lent them
abbrev pub still_left : ℕ → ℕ → ℕ → List ℕ → List ℕ → List ℕ → Cursor → List Pair
still_left n cols m offsets items globals c =
    cells_from cols (list_by n offsets items) (m - c.place) c.place c.i c.j
    ++ globals_from n globals (c.place - m) (cond (ltb c.place m) 0 c.j)

pub record RunIs (ls : Lines) (cols m : ℕ) (offsets items globals : List ℕ) (c : Cursor) (fs ss fs' ss' : List ℕ) (r : Ran) : Type 0 where
  pub tests : r.tests ≡ length (made ls (still_left (count ls) cols m offsets items globals c) (length fs))
  pub hits : r.hits ≡ length (handed ls (still_left (count ls) cols m offsets items globals c) (length fs))
  pub first_is : take r.hits fs' ≡ firsts (handed ls (still_left (count ls) cols m offsets items globals c) (length fs))
  pub second_is : take r.hits ss' ≡ seconds (handed ls (still_left (count ls) cols m offsets items globals c) (length fs))
  pub first_long : length fs' ≡ length fs
  pub second_long : length ss' ≡ length ss
  -- what is left of the cells
  pub rest : List Pair
  pub at : LeftAt cols (count ls) m offsets items rest r.found
  pub left : drop r.tests (still_left (count ls) cols m offsets items globals c) ≡ rest ++ globals_from (count ls) globals r.p r.k
  pub first_zero : c.place < m → ZeroAfter r.hits fs'
  pub second_zero : c.place < m → ZeroAfter r.hits ss'
  pub place : LineFits (count ls) (length globals) globals r.p r.q r.k

pub record Gone (ls : Lines) (t : Tables) (c : Cursor) (fs ss fs' ss' : List ℕ) (r : Went) : Type 0 where
  pub is : r ≡ went_of ls t (length fs) (left_from t c)
  pub first_is : fs' ≡ zero_beyond 0 (length fs) (firsts (handed ls (left_from t c) (length fs)))
  pub second_is : ss' ≡ zero_beyond 0 (length ss) (seconds (handed ls (left_from t c) (length fs)))

-- the position of a global is within its slice
abbrev pub SpotAsks : List ℕ → Place → Type 0
SpotAsks globals (place.Cell row col) = Unit {0}
SpotAsks globals (place.Global p) = p < length globals
