-- The rows of a short list: the boxes of its lines stand ready, and its lines have marks. Each pair is written behind those that are handed out, and is
-- written over by the next if it is not. Definitions only.
use Rattle.std.specs.Prelude.{ℕ, zero, suc, ◌+◌, ◌*◌, ◌^◌, ◌≤◌, ◌<◌, Bool, not, cond, ◌&&◌, List, eqb, leb, Float, length, get_or, set}
use Rattle.std.specs.Int.Bits.{bit_and}
use Rattle.std.specs.Float.{nan}
use Rattle.grid.specs.declared.Box.{Box}
use Rattle.grid.specs.Boxes.{overlaps}
use Rattle.by_line.specs.First.{meet_before}

-- box u of a list with four floats for each
abbrev pub ready_box : List Float → ℕ → Box
ready_box s u = record { min_x = get_or s (u * 4) nan; min_y = get_or s (u * 4 + 1) nan; max_x = get_or s (u * 4 + 2) nan; max_y = get_or s (u * 4 + 3) nan }

-- what stands ready: a list with the marks and the boxes of its lines, and the lists by line with the counts
pub record ShortReady : Type 0 where
  pub list : List ℕ
  pub marks : List ℕ
  pub boxes : List Float
  pub starts : List ℕ
  pub listing : List ℕ
  pub counts : List ℕ

abbrev pub ready : List ℕ → List ℕ → List Float → List ℕ → List ℕ → List ℕ → ShortReady
ready list marks boxes starts listing counts = record { list = list; marks = marks; boxes = boxes; starts = starts; listing = listing; counts = counts }

-- what the answer on two boxes decides, beside the bits that the marks of both lines have in common: with none the test is the first, with more than
-- the lowest it is not; with the lowest alone it is looked up
unfoldable pub decide_by : Bool → ℕ → ℕ → ℕ → List ℕ → List ℕ → List ℕ → Bool
decide_by near common a b starts listing counts = cond (eqb common 1) (near && not (meet_before a b starts listing counts)) (near && eqb common 0)

-- whether the lines of entries i and j are handed out
abbrev pub hands_out : ShortReady → ℕ → ℕ → Bool
hands_out w i j =
    decide_by (overlaps (ready_box w.boxes i) (ready_box w.boxes j)) (bit_and (get_or w.marks i 0) (get_or w.marks j 0))
    (get_or w.list i 0) (get_or w.list j 0) w.starts w.listing w.counts

-- both outputs, and how many pairs are handed out
pub record PairOutputs : Type 0 where
  pub first : List ℕ
  pub second : List ℕ
  pub hits : ℕ

abbrev pub pair_outputs : List ℕ → List ℕ → ℕ → PairOutputs
pair_outputs first second hits = record { first = first; second = second; hits = hits }

-- a pair is written behind those that are handed out, and counted if it is
unfoldable pub try_pair : Bool → ℕ → ℕ → PairOutputs → PairOutputs
try_pair keep a b o = pair_outputs (set o.first o.hits a) (set o.second o.hits b) (cond keep (o.hits + 1) o.hits)

-- entry i with each of n entries from j on
unfoldable pub try_row : ShortReady → ℕ → ℕ → ℕ → PairOutputs → PairOutputs
try_row w i zero j o = o
try_row w i (suc n) j o = try_row w i n (suc j) (try_pair (hands_out w i j) (get_or w.list i 0) (get_or w.list j 0) o)

-- each of the last n entries, which begin with entry i, with every later one
unfoldable pub try_rows : ShortReady → ℕ → ℕ → PairOutputs → PairOutputs
try_rows w zero i o = o
try_rows w (suc n) i o = try_rows w n (suc i) (try_row w i n (suc i) o)

-- at most 64 lines, a mark and four floats for each, and a count that does not come near the greatest number
unfoldable pub short_fits : ℕ → ℕ → ℕ → ℕ → Bool
short_fits list marks room hits = leb list 64 && (leb list marks && (leb (list * 4) room && leb hits (2 ^ 62)))

-- THE ROWS OF A SHORT LIST; where there is no room nothing is done
unfoldable pub short_rows : ShortReady → PairOutputs → PairOutputs
short_rows w o = cond (short_fits (length w.list) (length w.marks) (length w.boxes) o.hits) (try_rows w (length w.list) 0 o) o

-- ---- what the private functions ask

-- room for the rows of a list
pub record RowsFit (w : ShortReady) : Type 0 where
  pub few : length w.list ≤ 64
  pub marked : length w.list ≤ length w.marks
  pub boxed : length w.list * 4 ≤ length w.boxes

-- a row
pub record ShortRowAsks (w : ShortReady) (i hits : ℕ) : Type 0 where
  pub fits : RowsFit w
  pub inside : i < length w.list
  pub small : hits ≤ 2 ^ 63
