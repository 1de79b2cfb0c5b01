-- What a scan by marks asks: two lines of a list whose marks have a bit above the lowest in common met before, and two that have fewer bits in common
-- than `sure` did not. It is 1, or 0 where there are no marks: then nothing tells that two lines did not meet. Definitions only.
use Rattle.std.specs.Prelude.{ℕ, ◌*◌, ◌≤◌, ◌<◌, ◌≡◌, true, false, List, length, get_or}
use Rattle.std.specs.Int.Bits.{bit_and}
use Rattle.by_line.specs.First.{met_below}
use Rattle.first_tests.specs.InsideScan.{PlaceAsks, PairAsks, ScanAsks, RowsAsk}

-- what the bits that the marks of two lines have in common say of them
pub record Says (N head b common sure : ℕ) (starts listing counts : List ℕ) : Type 0 where
  pub met : 1 < common → (h : PlaceAsks N starts listing counts) → met_below h.W h.c head b ≡ true
  pub apart : common < sure → (h : PlaceAsks N starts listing counts) → met_below h.W h.c head b ≡ false

-- two lines, with the bits that their marks have in common
pub record MarkedPair (N head b common sure : ℕ) (starts listing counts : List ℕ) : Type 0 where
  pub pair : PairAsks N head b starts listing counts
  pub says : Says N head b common sure starts listing counts

-- a row, with the mark of its line and those of the others
pub record MarkedRow (N head mark sure : ℕ) (bs marks starts listing counts : List ℕ) (hits : ℕ) : Type 0 where
  pub scan : ScanAsks N head bs starts listing counts hits
  pub long : length bs ≤ length marks
  pub says : (j : ℕ) → j < length bs → Says N head (get_or bs j 0) (bit_and mark (get_or marks j 0)) sure starts listing counts

-- the rows of a list, with the marks of its entries; where these are not sure, the line of a row has none
pub record MarkedRows (N sure : ℕ) (xs marks starts listing counts : List ℕ) (hits : ℕ) : Type 0 where
  pub rows : RowsAsk N xs starts listing counts hits
  pub most : sure ≤ 1
  pub long : length xs ≤ length marks
  pub says : (i j : ℕ) → i < length xs → j < length xs
      → Says N (get_or xs i 0) (get_or xs j 0) (bit_and (get_or marks i 0 * sure) (get_or marks j 0)) sure starts listing counts
