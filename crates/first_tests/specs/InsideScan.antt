-- What the functions of a scan ask and promise, whatever decides which two lines are handed out: over a decision `chosen` on two line numbers, and
-- N lines. A scan over other slices than this crate's cites these, with their laws. Definitions only.
use Rattle.std.specs.Prelude.{Ok, ℕ, suc, ◌+◌, ◌*◌, ◌≤◌, ◌<◌, ◌^◌, ◌≡◌, Bool, not, ◌&&◌, List, [], ◌∷◌, length, get_or, take, set, replicate}
use Rattle.slices.specs.Lists.{Below}
use Rattle.grid.specs.declared.Grid.{Grid}
use Rattle.tables.specs.Tables.{Tables, list_in}
use Rattle.tables.specs.Fit.{standing_check}
use Rattle.tables.specs.Lists.{lines_at, start, offsets_of, items_of}
use Rattle.tables.specs.InsidePasses.{Table, Counted}
use Rattle.seek.specs.declared.Place.{Place}
use Rattle.seek.specs.declared.Place.TheVariants.{Global}
use Rattle.seek.specs.Tests.{Pair, pair, with_each, pairs, place_of, cell_tests, others, global_tests}
use Rattle.visit.specs.Batches.{firsts, seconds}
use Rattle.tables.specs.InsideFit.{GlobalsFit}
use Rattle.seek.specs.Inside.{tri}
use Rattle.by_line.specs.ByLine.{cells_listing}
use Rattle.by_line.specs.Inside.{TurnAsks}
use Rattle.by_line.specs.First.{met_below}
use Rattle.first_tests.specs.Firsts.{kept_by}

-- ---- what is written

-- the entries of xs, from a position on; those beyond the end of the slice are not written
unfoldable pub put_at : List ℕ → ℕ → List ℕ → List ℕ
put_at s at [] = s
put_at s at (x ∷ xs) = put_at (set s at x) (suc at) xs

-- two slices of one length have the same first n entries
pub record SameFirst (n : ℕ) (s t : List ℕ) : Type 0 where
  pub long : length s ≡ length t
  pub same : take n s ≡ take n t

-- the tests ps were made: those that pass stand in the outputs from `hits` on. What stands beyond them is open
pub record HandedOut (keep : Pair → Bool) (ps : List Pair) (fs ss : List ℕ) (hits : ℕ) (fs' ss' : List ℕ) (hits' : ℕ) : Type 0 where
  pub hits_are : hits' ≡ hits + length (kept_by keep ps)
  pub first_is : SameFirst hits' fs' (put_at fs hits (firsts (kept_by keep ps)))
  pub second_is : SameFirst hits' ss' (put_at ss hits (seconds (kept_by keep ps)))

-- ---- one test

-- whether two lines are handed out where c cells are behind
unfoldable pub keep_at : (ℕ → ℕ → Bool) → (ℕ → List ℕ) → ℕ → ℕ → ℕ → Bool
keep_at chosen W c a b = chosen a b && not (met_below W c a b)

-- lists by line of m cells and n lines, with the cells below c counted
pub record Listed (W : ℕ → List ℕ) (m n : ℕ) (starts listing : List ℕ) (c : ℕ) (counts : List ℕ) : Type 0 where
  pub table : Table (lines_at W m) n starts listing
  pub starts_long : n < length starts
  pub listing_long : start (lines_at W m) n ≤ length listing
  pub at_most : c ≤ m
  pub counts_long : n ≤ length counts
  pub counted : Counted (lines_at W c) counts

-- a place in a visit: how many cells are behind
pub record PlaceAsks (N : ℕ) (starts listing counts : List ℕ) : Type 0 where
  pub W : ℕ → List ℕ
  pub m : ℕ
  pub c : ℕ
  pub listed : Listed W m N starts listing c counts

-- two lines there
pub record PairAsks (N head b : ℕ) (starts listing counts : List ℕ) : Type 0 where
  pub place : PlaceAsks N starts listing counts
  pub one : head < N
  pub other : b < N

-- ---- a row: the tests of one line with those of a list, at one place

pub record ScanAsks (N head : ℕ) (bs starts listing counts : List ℕ) (hits : ℕ) : Type 0 where
  pub place : PlaceAsks N starts listing counts
  pub one : head < N
  pub below : Below N bs
  pub small : hits + length bs < 2 ^ 64

-- the tests are made, at whatever place has c cells behind it
abbrev pub RowHandedOut : (ℕ → ℕ → Bool) → ℕ → ℕ → List ℕ → List ℕ → List ℕ → List ℕ → List ℕ → List ℕ → ℕ → List ℕ → List ℕ → ℕ → Type 0
RowHandedOut chosen N head starts listing counts bs fs ss hits fs' ss' hits' =
    (h : PlaceAsks N starts listing counts) (pl : Place) (keep : Pair → Bool)
    → ((b : ℕ) → keep (pair pl head b) ≡ keep_at chosen h.W h.c head b)
    → HandedOut keep (with_each pl head bs) fs ss hits fs' ss' hits'

-- ---- the pairs of a list

pub record RowsAsk (N : ℕ) (xs starts listing counts : List ℕ) (hits : ℕ) : Type 0 where
  pub place : PlaceAsks N starts listing counts
  pub below : Below N xs
  pub small : hits + tri (length xs) < 2 ^ 64

pub record RowsDone (chosen : ℕ → ℕ → Bool) (N : ℕ) (starts listing counts xs fs ss : List ℕ) (hits : ℕ) (fs' ss' : List ℕ) (hits' : ℕ) : Type 0 where
  pub made : (h : PlaceAsks N starts listing counts) (pl : Place) (keep : Pair → Bool)
      → ((a b : ℕ) → keep (pair pl a b) ≡ keep_at chosen h.W h.c a b) → HandedOut keep (pairs pl xs) fs ss hits fs' ss' hits'
  pub few : hits' ≤ hits + tri (length xs)

-- ---- the cells

pub record CellsAsk (N m : ℕ) (offsets items starts listing counts : List ℕ) : Type 0 where
  pub table : TurnAsks m N offsets items
  pub few_cells : m ≤ 1002001
  pub few_lines : N ≤ 65536
  pub listed : Listed (list_in offsets items) m N starts listing 0 counts

pub record CellsDone (chosen : ℕ → ℕ → Bool) (N m : ℕ) (offsets items starts listing counts' fs ss fs' ss' : List ℕ) (hits' : ℕ) : Type 0 where
  pub made : (cols : ℕ) (keep : Pair → Bool) → ((c : ℕ) → c < m → (a b : ℕ) → keep (pair (place_of cols c) a b) ≡ keep_at chosen (list_in offsets items) c a b)
      → HandedOut keep (cell_tests cols offsets items m 0) fs ss 0 fs' ss' hits'
  pub listed : Listed (list_in offsets items) m N starts listing m counts'
  pub few : hits' ≤ 1002001 * 2147450880

-- ---- the globals

pub record GlobalAsks (N n p : ℕ) (globals starts listing counts : List ℕ) (hits : ℕ) : Type 0 where
  pub place : PlaceAsks N starts listing counts
  pub lines : n ≡ N
  pub few : n ≤ 65536
  pub m : ℕ
  pub most : m ≤ 65536
  pub fits : GlobalsFit n m globals
  pub inside : p < m
  pub small : hits < 2 ^ 63

pub record GlobalDone (chosen : ℕ → ℕ → Bool) (N p : ℕ) (globals starts listing counts fs ss : List ℕ) (hits : ℕ) (fs' ss' : List ℕ) (hits' : ℕ) : Type 0 where
  pub made : (h : PlaceAsks N starts listing counts) (keep : Pair → Bool)
      → ((b : ℕ) → keep (pair (Global p) (get_or globals p 0) b) ≡ keep_at chosen h.W h.c (get_or globals p 0) b)
      → HandedOut keep (with_each (Global p) (get_or globals p 0) (others (take (suc p) globals) N 0)) fs ss hits fs' ss' hits'
  pub few : hits' ≤ hits + 65536

pub record GlobalsAsk (N n : ℕ) (globals : List ℕ) (m : ℕ) (starts listing counts : List ℕ) (hits : ℕ) : Type 0 where
  pub place : PlaceAsks N starts listing counts
  pub lines : n ≡ N
  pub few : n ≤ 65536
  pub most : m ≤ 65536
  pub fits : GlobalsFit n m globals
  pub small : hits < 2 ^ 62

pub record GlobalsDone (chosen : ℕ → ℕ → Bool) (N : ℕ) (globals : List ℕ) (m : ℕ) (starts listing counts fs ss : List ℕ) (hits : ℕ) (fs' ss' : List ℕ) (hits' : ℕ) : Type 0 where
  pub made : (h : PlaceAsks N starts listing counts) (keep : Pair → Bool)
      → ((p a b : ℕ) → keep (pair (Global p) a b) ≡ keep_at chosen h.W h.c a b)
      → HandedOut keep (global_tests N globals m 0) fs ss hits fs' ss' hits'

-- ---- a full visit

-- tables that pass, their lists by line, and counts that are zero
pub record RunAsks (g : Grid) (t : Tables) (starts listing counts : List ℕ) : Type 0 where
  pub fine : standing_check g t ≡ Ok tt
  pub starts_are : starts ≡ offsets_of (cells_listing t) t.lines (length starts)
  pub listing_is : listing ≡ items_of (cells_listing t) t.lines (length listing)
  pub starts_long : t.lines < length starts
  pub listing_long : length t.items ≤ length listing
  pub counts_long : t.lines ≤ length counts
  pub counts_are : counts ≡ replicate (length counts) 0
