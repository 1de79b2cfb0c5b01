-- What the private functions ask and promise: how items and offsets are moved in place, by the visited cells from the last to the first. Definitions only.
use Rattle.refusals.specs.declared.Refusal.{Refusal}
use Rattle.std.specs.Prelude.{Some, None, Result, Option, ◌≡◌, true, ◌&&◌, List, [], ◌∷◌, ◌++◌, ℕ, suc, ◌+◌, ◌≤◌, ◌<◌, ◌^◌, leb, length, get_or, take, drop, replicate}
use Rattle.std.proofs.Math.Seq.{slice}
use Rattle.slices.specs.Lists.{elem, Below, Rising}
use Rattle.refusals.specs.Refusals.{Check, refusal, unless, and_then, refused, gives, ◌then◌, zero_beyond}
use Rattle.grid.specs.declared.Grid.{Grid}
use Rattle.grid.specs.declared.Segment.{Segment}
use Rattle.grid.specs.Domain.{segment, fit}
use Rattle.turns.specs.Pushes.{Outcome}
use Rattle.tables.specs.Tables.{Tables, cells, list_in}
use Rattle.tables.specs.Lists.{long, only, items_of, offsets_of}
use Rattle.tables.specs.Fit.{ListsFit, TablesFit}
use Rattle.added.specs.declared.Added.{Added}
use Rattle.added.specs.declared.Goes.{Goes}
use Rattle.added.specs.Added.{listing, space_with_check, front, AddIs}

-- ---- the items

-- the entries from `from` to `to` moved up, with n before them
unfoldable pub gap_of : ℕ → ℕ → ℕ → ℕ → List ℕ → List ℕ
gap_of from to before n xs = take (from + before) xs ++ (n ∷ (slice from to xs ++ drop (suc (to + before)) xs))

-- where the list of the first of some visited cells ends, and the total where there is none
abbrev pub end_in : List ℕ → ℕ → List ℕ → ℕ
end_in offsets total [] = total
end_in offsets total (c ∷ cs) = get_or offsets (suc c) 0

-- what stands from there on: n, and the lists up to the end of that of the next visited cell, and so on
unfoldable pub behind : ℕ → List ℕ → ℕ → List ℕ → List ℕ → List ℕ → List ℕ
behind n offsets total items rest [] = rest
behind n offsets total items rest (c ∷ cs) =
    n ∷ (slice (get_or offsets (suc c) 0) (end_in offsets total cs) items ++ behind n offsets total items rest cs)

-- the items with n at the end of the list of each visited cell; what stood beyond them stays
unfoldable pub spread_of : ℕ → List ℕ → ℕ → List ℕ → List ℕ → List ℕ
spread_of n offsets total items visited =
    take (end_in offsets total visited) items ++ behind n offsets total items (drop (total + length visited) items) visited

-- offsets that never fall, up to the total, and increasing cells between them
pub record Spreadable (visited offsets : List ℕ) (total : ℕ) (items : List ℕ) : Type 0 where
  pub cells : ℕ
  pub rises : (c : ℕ) → c < cells → get_or offsets c 0 ≤ get_or offsets (suc c) 0
  pub last : get_or offsets cells 0 ≡ total
  pub long : cells < length offsets
  pub few : cells ≤ 1002001
  pub order : Rising 0 visited
  pub below : Below cells visited
  pub room : total + length visited ≤ length items

-- ---- the offsets

-- each entry, and so many more
abbrev pub more : ℕ → List ℕ → List ℕ
more by [] = []
more by (x ∷ xs) = (x + by) ∷ more by xs

unfoldable pub raised_part : ℕ → ℕ → ℕ → List ℕ → List ℕ
raised_part from to by o = take from o ++ (more by (slice from to o) ++ drop to o)

pub record Raisable (from to by : ℕ) (o : List ℕ) : Type 0 where
  pub order : from ≤ to
  pub within : to ≤ length o
  pub small : (p : ℕ) → p < to → get_or o p 0 + by < 2 ^ 32

-- where the first of some visited cells ends among the offsets, and where the offsets end where there is none
abbrev pub next_in : ℕ → List ℕ → ℕ
next_in end [] = end
next_in end (c ∷ cs) = suc c

-- what stands from there on, where j visited cells are before: those up to the next one grow by one more than j, and so on
unfoldable pub moved_above : List ℕ → ℕ → ℕ → List ℕ → List ℕ
moved_above o end j [] = drop end o
moved_above o end j (c ∷ cs) = more (suc j) (slice (suc c) (next_in end cs) o) ++ moved_above o end (suc j) cs

unfoldable pub lifted_of : List ℕ → ℕ → List ℕ → List ℕ
lifted_of o end visited = take (next_in end visited) o ++ moved_above o end 0 visited

pub record RaisableAll (visited o : List ℕ) (end : ℕ) : Type 0 where
  pub cells : ℕ
  pub end_is : end ≡ suc cells
  pub within : end ≤ length o
  pub few : cells ≤ 1002001
  pub order : Rising 0 visited
  pub below : Below cells visited
  pub small : (p : ℕ) → p < end → get_or o p 0 + length visited < 2 ^ 32

-- ---- the line in its lists

-- a scratch, a line and a grid that the walk does not refuse by 3, 1 and 8
pub record SegmentWalkable (g : Grid) (line : Segment) (s : List ℕ) : Type 0 where
  pub space : 16384 ≤ length s
  pub obeys : segment line ≡ true
  pub fits : fit g ≡ true

-- the line visits cells, so many of which list it, and these stand at the front of the scratch; in so many lists of globals it is
pub record Went (o : Outcome) (was s : List ℕ) (k m : ℕ) : Type 0 where
  pub visited : List ℕ
  pub is : o ≡ gives visited
  pub size : k ≡ length (listing visited)
  pub few : k ≤ 2048
  pub within : k ≤ length s
  pub at_front : take k s ≡ listing visited
  pub kind : m ≡ length (only (long visited) 0)
  pub same : length s ≡ length was

abbrev pub GoesAs : Outcome → List ℕ → List ℕ → Option Goes → Type 0
GoesAs o was s (Some goes) = Went o was s goes.cells goes.globals
GoesAs o was s None = (o ≡ refused (refusal 7 0)) × (s ≡ replicate (length was) 0)

-- tables of so many cells and items, and room for the number in the lists of the visited cells
pub record Insertable (visited : List ℕ) (cells total : ℕ) (offsets items : List ℕ) : Type 0 where
  pub lines : ℕ
  pub lists : ListsFit cells lines offsets items
  pub long : cells < length offsets
  pub few : cells ≤ 1002001
  pub last : total ≡ get_or offsets cells 0
  pub order : Rising 0 visited
  pub below : Below cells visited
  pub room : total + length visited ≤ length items
  pub small : total + length visited < 2 ^ 32

-- the list of each cell, with n at its end if it is visited
abbrev pub with_in : ℕ → List ℕ → List ℕ → List ℕ → ℕ → List ℕ
with_in n visited offsets items c = list_in offsets items c ++ only (elem c visited) n

pub record Inserted (n : ℕ) (visited : List ℕ) (cells : ℕ) (offsets items offsets' items' : List ℕ) : Type 0 where
  pub offsets_are : offsets' ≡ offsets_of (with_in n visited offsets items) cells (length offsets)
  pub items_are : items' ≡ items_of (with_in n visited offsets items) cells (length items)

-- the globals with n at their end, `more` times, and zero beyond
unfoldable pub globals_left : ℕ → ℕ → ℕ → List ℕ → List ℕ
globals_left n more found gs = zero_beyond 0 (length gs) (take found gs ++ replicate more n)

-- 5, then 6, by numbers
unfoldable pub space_by : ℕ → ℕ → ℕ → ℕ → Check
space_by total items found globals =
    and_then (unless (leb total items && leb total 4294967295) 5 total) (unless (leb found globals) 6 found)

-- tables that fit, and at the front of the scratch the k cells that list a line of some visited cells, which is in m lists of globals
pub record Puttable (t : Tables) (s : List ℕ) (k m : ℕ) : Type 0 where
  pub visited : List ℕ
  pub size : k ≡ length (listing visited)
  pub few : k ≤ 2048
  pub within : k ≤ length s
  pub at_front : take k s ≡ listing visited
  pub kind : m ≡ length (only (long visited) 0)
  pub order : Rising 0 (listing visited)
  pub below : Below (cells t) (listing visited)
  pub tables_fit_lem : TablesFit t
  pub cells_few : cells t ≤ 1002001
  pub lines_few : t.lines < 65536

-- 5 and 6, or the line in its lists: for whatever visited cells the front of the scratch lists
abbrev pub PutIs : Tables → List ℕ → ℕ → ℕ → Result Added Refusal → List ℕ → List ℕ → List ℕ → List ℕ → Type 0
PutIs t s k m r offsets' items' globals' s' =
    (h : Puttable t s k m) → AddIs t (space_with_check t h.visited then gives h.visited) s (front s) r offsets' items' globals' s'

-- all that the checks find
pub record Placeable (g : Grid) (line : Segment) (t : Tables) (s : List ℕ) : Type 0 where
  pub walkable : SegmentWalkable g line s
  pub some : 1 ≤ g.cols
  pub tables_fit_lem : TablesFit t
  pub few : t.lines < 65536
