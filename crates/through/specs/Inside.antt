-- What the private functions promise. Definitions only.
use Rattle.std.specs.Prelude.{ℕ, zero, suc, ◌+◌, ◌-◌, ◌*◌, ◌≤◌, ◌<◌, ◌^◌, ◌≡◌, Bool, true, false, List, [], ◌∷◌, ◌++◌, length, get_or, take, drop, set, Float}
use Rattle.std.specs.Float.{nan}
use Rattle.slices.specs.Lists.{Below}
use Rattle.grid.specs.declared.Box.{Box}
use Rattle.grid.specs.Domain.{Lines, count, Alike, segment_at}
use Rattle.grid.specs.Boxes.{box_of, overlaps}
use Rattle.seek.specs.declared.Place.{Place}
use Rattle.seek.specs.Tests.{Pair, with_each}
use Rattle.visit.specs.Overlap.{overlap}
use Rattle.visit.specs.Inside.{TestsMoved}
use Rattle.through.specs.declared.boxes.Window.{Window}
use Rattle.through.specs.declared.rows.PartRan.{PartRan}
use Rattle.through.specs.declared.rows.ListRan.{ListRan}
use Rattle.through.specs.declared.rows.CellsRan.{CellsRan}
use Rattle.refusals.specs.Refusals.{zero_beyond}
use Rattle.visit.specs.Batches.{made, handed, firsts, seconds}
use Rattle.through.specs.declared.CellsMade.{CellsMade}
use Rattle.listed.specs.Lists.{list_by, list_from, cells_from}
use Rattle.listed.specs.Places.{LeftAt}
use Rattle.listed.specs.Bytes.{byte_of}
use Rattle.listed.specs.Rooms.{BoxRoom, box_in}

-- ---- lines and boxes

-- slices of one length, and one line of them
pub record LineAsks (ls : Lines) (i : ℕ) : Type 0 where
  pub alike : Alike ls
  pub one : i < count ls

-- the room with another box at entry u
unfoldable pub with_box : List Float → ℕ → Box → List Float
with_box bs u b = set (set (set (set bs u b.min_x) (513 + u) b.min_y) (1026 + u) b.max_x) (1539 + u) b.max_y

pub record GatherAsks (ls : Lines) (xs : List ℕ) (bs : List Float) : Type 0 where
  pub alike : Alike ls
  pub below : Below (count ls) xs
  pub most : length xs ≤ 512
  pub room : BoxRoom 513 bs

-- what overlaps `inner` overlaps each of the first m boxes
pub record Inner (m : ℕ) (bs : List Float) (inner : Box) : Type 0 where
  pub each : (u : ℕ) → u < m → (b : Box) → overlaps b inner ≡ true → overlaps b (box_in bs u) ≡ true

-- the boxes of the first m entries
pub record BoxesIn (ls : Lines) (xs : List ℕ) (m : ℕ) (bs bs' : List Float) : Type 0 where
  pub each : (u : ℕ) → u < m → box_in bs' u ≡ box_of (segment_at ls (get_or xs u 0))
  pub long : length bs' ≡ length bs

-- and entry 512 is within all of them
pub record Gathered (ls : Lines) (xs : List ℕ) (m : ℕ) (bs bs' : List Float) : Type 0 where
  pub each : (u : ℕ) → u < m → box_in bs' u ≡ box_of (segment_at ls (get_or xs u 0))
  pub long : length bs' ≡ length bs
  pub says : Inner m bs' (box_in bs' 512)

-- the box at entry u of one list, which holds four numbers for each
abbrev pub flat_in : List Float → ℕ → Box
flat_in flat u =
    record { min_x = get_or flat (4 * u) nan; min_y = get_or flat (4 * u + 1) nan; max_x = get_or flat (4 * u + 2) nan; max_y = get_or flat (4 * u + 3) nan }

pub record FlatAsks (ls : Lines) (xs : List ℕ) (flat : List Float) : Type 0 where
  pub alike : Alike ls
  pub below : Below (count ls) xs
  pub room : 4 * length xs ≤ length flat

-- the boxes of the first m entries
pub record FlatFilled (ls : Lines) (xs : List ℕ) (m : ℕ) (flat flat' : List Float) : Type 0 where
  pub each : (u : ℕ) → u < m → flat_in flat' u ≡ box_of (segment_at ls (get_or xs u 0))
  pub long : length flat' ≡ length flat

-- the boxes of `held` entries from `from` on
pub record Holds (ls : Lines) (xs : List ℕ) (from held : ℕ) (bs : List Float) : Type 0 where
  pub each : (u : ℕ) → u < held → box_in bs u ≡ box_of (segment_at ls (get_or xs (from + u) 0))
  pub within : from + held ≤ length xs
  pub most : held ≤ 512
  pub room : BoxRoom held bs
  pub says : Inner held bs (box_in bs 512)

pub record WindowAsks (ls : Lines) (xs : List ℕ) (at from held : ℕ) (bs : List Float) : Type 0 where
  pub alike : Alike ls
  pub below : Below (count ls) xs
  pub inside : at < length xs
  pub room : BoxRoom 513 bs
  pub holds : Holds ls xs from held bs

pub record ReadyIs (ls : Lines) (xs : List ℕ) (at : ℕ) (bs bs' : List Float) (r : Window) : Type 0 where
  pub holds : Holds ls xs r.from r.held bs'
  pub from : r.from ≤ at
  pub to : at < r.from + r.held
  pub long : length bs' ≡ length bs

-- ---- one line with each of a list

pub record MarkAsks (bs : List Float) (at many : ℕ) (marks : List ℕ) : Type 0 where
  pub room : BoxRoom (at + many) bs
  pub in_marks : many ≤ length marks

-- byte u is the answer of a box with that at entry at + u, for the first m
pub record BytesOf (bounds : Box) (bs : List Float) (at m : ℕ) (marks marks' : List ℕ) : Type 0 where
  pub each : (u : ℕ) → u < m → get_or marks' u 0 ≡ byte_of (overlaps bounds (box_in bs (at + u)))
  pub long : length marks' ≡ length marks

-- the first m bytes are 1
pub record Whole (m : ℕ) (marks : List ℕ) : Type 0 where
  pub each : (u : ℕ) → u < m → get_or marks u 0 ≡ 1

-- boxes from `at` on, and one where what overlaps it overlaps each of them
pub record AskAsks (bs : List Float) (at many : ℕ) (marks : List ℕ) : Type 0 where
  pub held : BoxRoom (at + many) bs
  pub inner : BoxRoom 513 bs
  pub says : (u : ℕ) → u < many → (b : Box) → overlaps b (box_in bs 512) ≡ true → overlaps b (box_in bs (at + u)) ≡ true
  pub in_marks : many ≤ length marks

-- each of them is overlapped, or the bytes are the answers
pub record Asked (bounds : Box) (bs : List Float) (at many : ℕ) (marks marks' : List ℕ) (r : Bool) : Type 0 where
  pub all : r ≡ true → (u : ℕ) → u < many → overlaps bounds (box_in bs (at + u)) ≡ true
  pub each : r ≡ false → BytesOf bounds bs at many marks marks'
  pub long : length marks' ≡ length marks

-- room for every pair
pub record RoomFor (xs fs ss : List ℕ) (hits : ℕ) : Type 0 where
  pub same : length ss ≡ length fs
  pub room : hits + length xs ≤ length fs

-- a byte of at most 1 for each entry
pub record PutAsks (xs marks fs ss : List ℕ) (hits : ℕ) : Type 0 where
  pub in_marks : length xs ≤ length marks
  pub bits : (u : ℕ) → u < length xs → get_or marks u 0 ≤ 1
  pub room : RoomFor xs fs ss hits

-- the bytes are the answers of a line with each entry
pub record AnswersOf (ls : Lines) (line : ℕ) (xs marks : List ℕ) : Type 0 where
  pub each : (u : ℕ) → u < length xs → get_or marks u 0 ≡ byte_of (overlap ls line (get_or xs u 0))

-- the first m entries are done, by the bytes
pub record PairsPut (line : ℕ) (xs marks : List ℕ) (m : ℕ) (fs ss : List ℕ) (hits : ℕ) (fs' ss' : List ℕ) (hits' : ℕ) : Type 0 where
  pub moved : (ls : Lines) (pl : Place) (later : List Pair) → AnswersOf ls line xs marks
      → TestsMoved ls (with_each pl line xs ++ later) (with_each pl line (drop m xs) ++ later) m (length fs) fs ss hits fs' ss' hits'
  pub most : hits' ≤ hits + m
  pub first_long : length fs' ≡ length fs
  pub second_long : length ss' ≡ length ss

-- the same where all the bytes are 1
pub record PutWhole (line : ℕ) (xs : List ℕ) (m : ℕ) (fs ss : List ℕ) (hits : ℕ) (fs' ss' : List ℕ) (hits' : ℕ) : Type 0 where
  pub put : (marks : List ℕ) → Whole (length xs) marks → PairsPut line xs marks m fs ss hits fs' ss' hits'
  pub most : hits' ≤ hits + m
  pub first_long : length fs' ≡ length fs
  pub second_long : length ss' ≡ length ss

pub record ScanAsks (ls : Lines) (line : ℕ) (xs : List ℕ) (bs : List Float) (at : ℕ) (marks fs ss : List ℕ) (hits : ℕ) : Type 0 where
  pub alike : Alike ls
  pub one : line < count ls
  pub boxes : (u : ℕ) → u < length xs → box_in bs (at + u) ≡ box_of (segment_at ls (get_or xs u 0))
  pub held : BoxRoom (at + length xs) bs
  pub inner : BoxRoom 513 bs
  pub says : (u : ℕ) → u < length xs → (b : Box) → overlaps b (box_in bs 512) ≡ true → overlaps b (box_in bs (at + u)) ≡ true
  pub in_marks : length xs ≤ length marks
  pub room : RoomFor xs fs ss hits

pub record Scanned (ls : Lines) (line : ℕ) (xs marks fs ss : List ℕ) (hits : ℕ) (marks' fs' ss' : List ℕ) (hits' : ℕ) : Type 0 where
  pub moved : (pl : Place) (later : List Pair) → TestsMoved ls (with_each pl line xs ++ later) later (length xs) (length fs) fs ss hits fs' ss' hits'
  pub marks_long : length marks' ≡ length marks
  pub first_long : length fs' ≡ length fs
  pub second_long : length ss' ≡ length ss

-- ---- one line with each of a short list

-- the answers of a box with n boxes from entry `at` on
unfoldable pub answers_in : Box → List Float → ℕ → ℕ → List ℕ
answers_in b flat at zero = []
answers_in b flat at (suc n) = byte_of (overlaps b (flat_in flat at)) ∷ answers_in b flat (suc at) n

pub record FewAsks (xs : List ℕ) (flat : List Float) (at : ℕ) (fs ss : List ℕ) (hits : ℕ) : Type 0 where
  pub held : 4 * (at + length xs) ≤ length flat
  pub room : RoomFor xs fs ss hits

-- ---- from where some tests were left to where others are, `steps` were made: those others are what is left of the first

pub record Goes (ls : Lines) (rest rest' : List Pair) (steps room : ℕ) (fs ss : List ℕ) (hits : ℕ) (fs' ss' : List ℕ) (hits' : ℕ) : Type 0 where
  pub moved : TestsMoved ls rest rest' steps room fs ss hits fs' ss' hits'
  pub left : rest' ≡ drop steps rest

-- what is lent to a run: lines, and outputs with `hits` pairs in them
pub record Lent (ls : Lines) (fs ss : List ℕ) (hits : ℕ) : Type 0 where
  pub alike : Alike ls
  pub same : length ss ≡ length fs
  pub in_room : hits ≤ length fs

-- and the room for boxes and bytes
pub record Scratch (bs : List Float) (marks : List ℕ) : Type 0 where
  pub boxes : BoxRoom 513 bs
  pub bytes : 512 ≤ length marks

pub record SameScratch (bs : List Float) (marks : List ℕ) (bs' : List Float) (marks' : List ℕ) : Type 0 where
  pub boxes : length bs' ≡ length bs
  pub bytes : length marks' ≡ length marks

-- ---- a list

-- a part of row i, from entry j on
pub record PartAsks (ls : Lines) (xs : List ℕ) (i j from held : ℕ) (bs : List Float) (marks fs ss : List ℕ) (hits : ℕ) : Type 0 where
  pub window : WindowAsks ls xs j from held bs
  pub later : i < j
  pub bytes : 512 ≤ length marks
  pub same : length ss ≡ length fs
  pub room : hits < length fs

pub record PartIs (ls : Lines) (xs : List ℕ) (i j : ℕ) (fs ss : List ℕ) (hits : ℕ) (bs : List Float) (fs' ss' : List ℕ) (r : PartRan) : Type 0 where
  pub some : 0 < r.many
  pub inside : j + r.many ≤ length xs
  pub moved : (pl : Place) (later : List Pair)
      → TestsMoved ls (with_each pl (get_or xs i 0) (take r.many (drop j xs)) ++ later) later r.many (length fs) fs ss hits fs' ss' r.hits
  pub holds : Holds ls xs r.window.from r.window.held bs

pub record ListAsks (ls : Lines) (xs : List ℕ) (i j : ℕ) (bs : List Float) (marks fs ss : List ℕ) (hits : ℕ) : Type 0 where
  pub lent : Lent ls fs ss hits
  pub scratch : Scratch bs marks
  pub below : Below (count ls) xs
  pub small : (pl : Place) → length (list_from pl xs i j) < 2 ^ 64

-- a list that is short and begun at its start, with room for all its pairs
pub record Brief (len i j room : ℕ) : Type 0 where
  pub first : i ≡ 0
  pub second : j ≡ 1
  pub few : len ≤ 32
  pub fits : len * len ≤ room

pub record BriefAsks (ls : Lines) (xs : List ℕ) (flat : List Float) (fs ss : List ℕ) (hits : ℕ) : Type 0 where
  pub lent : Lent ls fs ss hits
  pub boxes : 128 ≤ length flat
  pub below : Below (count ls) xs
  pub few : length xs ≤ 32
  pub fits : hits + length xs * length xs ≤ length fs

pub record ListRanIs (ls : Lines) (xs : List ℕ) (i j : ℕ) (fs ss : List ℕ) (hits : ℕ) (fs' ss' : List ℕ) (r : ListRan) : Type 0 where
  pub goes : (pl : Place) (later : List Pair)
      → Goes ls (list_from pl xs i j ++ later) (list_from pl xs r.i r.j ++ later) r.tests (length fs) fs ss hits fs' ss' r.hits
  pub ends : r.hits < length fs → (pl : Place) → list_from pl xs r.i r.j ≡ []

-- ---- the cells

pub record CellsAsk (ls : Lines) (cols m : ℕ) (offsets items : List ℕ) (cell i j : ℕ) (bs : List Float) (marks fs ss : List ℕ) : Type 0 where
  pub lent : Lent ls fs ss 0
  pub scratch : Scratch bs marks
  pub small : length (cells_from cols (list_by (count ls) offsets items) (m - cell) cell i j) < 2 ^ 64

pub record CellsRanIs (ls : Lines) (cols m : ℕ) (offsets items : List ℕ) (cell i j : ℕ) (fs ss fs' ss' : List ℕ) (r : CellsRan) : Type 0 where
  pub goes : (later : List Pair)
      → Goes ls (cells_from cols (list_by (count ls) offsets items) (m - cell) cell i j ++ later)
      (cells_from cols (list_by (count ls) offsets items) (m - r.cell) r.cell r.i r.j ++ later) r.tests (length fs) fs ss 0 fs' ss' r.hits
  pub ends : r.hits < length fs → cells_from cols (list_by (count ls) offsets items) (m - r.cell) r.cell r.i r.j ≡ []

-- ---- the run as it is called

-- lines and outputs that pass the check, and no more cells than are looked at
pub record GoAsks (ls : Lines) (m : ℕ) (fs ss : List ℕ) : Type 0 where
  pub alike : Alike ls
  pub few : count ls ≤ 65536
  pub same : length ss ≡ length fs
  pub most : m ≤ 1002001

pub record GoneIs (ls : Lines) (cols m : ℕ) (offsets items : List ℕ) (cell i j : ℕ) (fs ss fs' ss' : List ℕ) (r : CellsMade) : Type 0 where
  pub tests : r.tests ≡ length (made ls (cells_from cols (list_by (count ls) offsets items) (m - cell) cell i j) (length fs))
  pub overlaps : r.overlaps ≡ length (handed ls (cells_from cols (list_by (count ls) offsets items) (m - cell) cell i j) (length fs))
  pub at : LeftAt cols (count ls) m offsets items (drop r.tests (cells_from cols (list_by (count ls) offsets items) (m - cell) cell i j)) r.at
  pub first_is : fs' ≡ zero_beyond 0 (length fs) (firsts (handed ls (cells_from cols (list_by (count ls) offsets items) (m - cell) cell i j) (length fs)))
  pub second_is : ss' ≡ zero_beyond 0 (length ss) (seconds (handed ls (cells_from cols (list_by (count ls) offsets items) (m - cell) cell i j) (length fs)))
