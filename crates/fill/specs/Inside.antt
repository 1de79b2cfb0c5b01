-- What the private functions ask and promise. Definitions only.
use Rattle.std.specs.Prelude.{◌≡◌, true, false, not, List, ◌++◌, ℕ, ◌+◌, ◌-◌, ◌≤◌, ◌<◌, length, take, get_or, replicate, Result, Ok, Err}
use Rattle.refusals.specs.Refusals.{Check, Answer, refused, gives, left_by}
use Rattle.refusals.specs.declared.Refusal.{Refusal}
use Rattle.grid.specs.declared.Grid.{Grid}
use Rattle.grid.specs.Domain.{Lines, count, Alike, line_fits, fit}
use Rattle.walk.specs.declared.Mode.{Mode}
use Rattle.tables.specs.Lists.{long, local, lines_at, sum}
use Rattle.tables.specs.InsidePasses.{Counted, Placed, CanCount, CanPlace}
use Rattle.fill.specs.declared.passes.Walked.{Walked}
use Rattle.fill.specs.declared.offsets.SumsEnd.{SumsEnd}
use Rattle.fill.specs.declared.Filled.{Filled}
use Rattle.fill.specs.declared.Filled.TheVariants as filled
use Rattle.fill.specs.OnGrid.{grid_cells, walk_on, completes, cells_on, list_on, globals_on, total, one_if}
use Rattle.fill.specs.Checks.{turns_check, counting_check}
use Rattle.fill.specs.Fill.{more_than, Filling, crowded, made}

-- ---- a number, or refused

-- the refusal of a check; or the check refuses nothing, and the number is as told
abbrev pub CountAs : Check → (ℕ → Type 0) → Result ℕ Refusal → Type 0
CountAs k P (Ok n) = (k ≡ Ok tt) × P n
CountAs k P (Err r) = k ≡ Err r

-- ---- one line

-- lines, a grid and a scratch that pass 3, 2, 1, 8
pub record Walkable (g : Grid) (ls : Lines) (s : List ℕ) : Type 0 where
  pub same : Alike ls
  pub few : count ls ≤ 65536
  pub each : (i : ℕ) → i < count ls → line_fits ls i ≡ true
  pub fits : fit g ≡ true
  pub space : 16384 ≤ length s

-- line i has n cells, and they stand at the front of the scratch, where they are no more than a line has that is not global
pub record LineFront (mode : Mode) (g : Grid) (ls : Lines) (i : ℕ) (s : List ℕ) (n : ℕ) : Type 0 where
  pub size : n ≡ length (cells_on mode g ls i)
  pub front : n ≤ 2048 → (n ≤ length s) × (take n s ≡ cells_on mode g ls i)

-- the walk of line i: whether it does not end, and else its cells
pub record WalkedIs (mode : Mode) (g : Grid) (ls : Lines) (i : ℕ) (s : List ℕ) (r : Walked) : Type 0 where
  pub over_is : r.over ≡ not (completes (walk_on mode g ls i))
  pub cells_are : r.over ≡ false → LineFront mode g ls i s r.cells

-- a line that a walk can work on
pub record WalkAsks (g : Grid) (ls : Lines) (i : ℕ) (s : List ℕ) : Type 0 where
  pub at : i < count ls
  pub walkable : Walkable g ls s

-- ---- the first pass

-- the cells that the lines are counted in
abbrev pub local_on : Mode → Grid → Lines → ℕ → List ℕ
local_on mode g ls = local (cells_on mode g ls)

-- the lines below i are counted
pub record CountedTo (mode : Mode) (g : Grid) (ls : Lines) (i : ℕ) (o : List ℕ) : Type 0 where
  pub room : grid_cells g < length o
  pub counts : Counted (lines_at (local_on mode g ls) i) o

-- the n cells at the front of s counted in o, where they are not too many; k is 1 where they are
pub record VisitsCounted (o s : List ℕ) (n : ℕ) (o' : List ℕ) (k : ℕ) : Type 0 where
  pub many : 2048 < n → (k ≡ 1) × (o' ≡ o)
  pub few : n ≤ 2048 → (k ≡ 0) × ((h : CanCount o s n) → Counted (lines_at h.W (h.i + 1)) o')

pub record CountAsks (mode : Mode) (g : Grid) (ls : Lines) (i : ℕ) (o s : List ℕ) : Type 0 where
  pub at : i < count ls
  pub walkable : Walkable g ls s
  pub counted : CountedTo mode g ls i o

-- line i counted: k is 1 for a global line
pub record LineCounted (mode : Mode) (g : Grid) (ls : Lines) (i : ℕ) (o : List ℕ) (k : ℕ) : Type 0 where
  pub kind : k ≡ one_if (long (cells_on mode g ls i))
  pub next : CountedTo mode g ls (i + 1) o

pub record PassAsks (mode : Mode) (g : Grid) (ls : Lines) (o s : List ℕ) : Type 0 where
  pub walkable : Walkable g ls s
  pub counted : CountedTo mode g ls 0 o

-- all lines counted: k are global
pub record AllCounted (mode : Mode) (g : Grid) (ls : Lines) (o : List ℕ) (k : ℕ) : Type 0 where
  pub found : k ≡ length (globals_on mode g ls)
  pub counted : CountedTo mode g ls (count ls) o

-- all lines counted, or a refusal, by whose rule both slices are as they were
pub record CountLent (mode : Mode) (g : Grid) (ls : Lines) (o s : List ℕ) (r : Result ℕ Refusal) (o' s' : List ℕ) : Type 0 where
  pub is : CountAs (counting_check mode g ls (length o) (length s)) (AllCounted mode g ls o') r
  pub offsets : (q : Refusal) → r ≡ Err q → left_by 0 q o' ≡ left_by 0 q o
  pub scratch : (q : Refusal) → r ≡ Err q → left_by 0 q s' ≡ left_by 0 q s

-- ---- the second pass

-- the lines below i are placed
pub record PlacedTo (mode : Mode) (g : Grid) (ls : Lines) (i : ℕ) (o t : List ℕ) : Type 0 where
  pub room : grid_cells g < length o
  pub space : total mode g ls ≤ length t
  pub placed : Placed (list_on mode g ls) (grid_cells g) (lines_at (local_on mode g ls) i) o t

-- the line i written to the lists of the n cells at the front of s, where they are not too many; k is 1 where they are
pub record VisitsPlaced (i : ℕ) (o t s : List ℕ) (n : ℕ) (o' t' : List ℕ) (k : ℕ) : Type 0 where
  pub many : 2048 < n → (k ≡ 1) × ((o' ≡ o) × (t' ≡ t))
  pub few : n ≤ 2048 → (k ≡ 0) × ((h : CanPlace i o t s n) → Placed (lines_at h.W h.lines) h.cells (lines_at h.W (i + 1)) o' t')

pub record LineAsks (mode : Mode) (g : Grid) (ls : Lines) (i : ℕ) (o t s : List ℕ) : Type 0 where
  pub at : i < count ls
  pub walkable : Walkable g ls s
  pub ended : completes (walk_on mode g ls i) ≡ true
  pub placed : PlacedTo mode g ls i o t

-- line i placed: k is 1 for a global line
pub record LinePlaced (mode : Mode) (g : Grid) (ls : Lines) (i : ℕ) (o t : List ℕ) (k : ℕ) : Type 0 where
  pub kind : k ≡ one_if (long (cells_on mode g ls i))
  pub next : PlacedTo mode g ls (i + 1) o t

-- the second pass can begin, and has room
pub record PlaceAsks (mode : Mode) (g : Grid) (ls : Lines) (o t gs s : List ℕ) : Type 0 where
  pub walkable : Walkable g ls s
  pub turns : turns_check mode g ls ≡ Ok tt
  pub first : PlacedTo mode g ls 0 o t
  pub clear : gs ≡ replicate (length gs) 0
  pub fits : length (globals_on mode g ls) ≤ length gs

-- all lines placed, and the global lines listed
pub record AllPlaced (mode : Mode) (g : Grid) (ls : Lines) (o t : List ℕ) (room : ℕ) (gs : List ℕ) : Type 0 where
  pub last : PlacedTo mode g ls (count ls) o t
  pub globals : gs ≡ globals_on mode g ls ++ replicate (room - length (globals_on mode g ls)) 0

-- ---- the offsets

-- o is o₀ with the running sums of its first entries in their place, and r is the total
pub record Summed (o₀ o : List ℕ) (cells r : ℕ) : Type 0 where
  pub total : r ≡ sum (λ k. get_or o₀ k 0) cells
  pub sums : (k : ℕ) → k ≤ cells → get_or o k 0 ≡ sum (λ k. get_or o₀ k 0) k
  pub beyond : (k : ℕ) → cells < k → get_or o k 0 ≡ get_or o₀ k 0

-- whether some entry is above `most`; where none is, the running sums
pub record SumsAre (most : ℕ) (o₀ o : List ℕ) (cells : ℕ) (r : SumsEnd) : Type 0 where
  pub crowd : r.crowded ≡ more_than most (λ c. get_or o₀ c 0) cells
  pub sums : r.crowded ≡ false → Summed o₀ o cells r.total

-- o is o₀ with its first entries moved up by one place, and 0 first
pub record ShiftedBack (o₀ o : List ℕ) (cells : ℕ) : Type 0 where
  pub first : get_or o 0 0 ≡ 0
  pub moved : (k : ℕ) → k < cells → get_or o (k + 1) 0 ≡ get_or o₀ k 0
  pub beyond : (k : ℕ) → cells < k → get_or o k 0 ≡ get_or o₀ k 0

-- ---- from the counts to the tables

-- the lines are counted, and `found` are global
pub record FillAsks (mode : Mode) (g : Grid) (ls : Lines) (found : ℕ) (o s : List ℕ) : Type 0 where
  pub walkable : Walkable g ls s
  pub turns : turns_check mode g ls ≡ Ok tt
  pub all : AllCounted mode g ls o found

-- the offsets o are the running sums of the counts, and the tables have room
pub record LayAsks (mode : Mode) (g : Grid) (ls : Lines) (all found items globals : ℕ) (o s : List ℕ) : Type 0 where
  pub counts : List ℕ
  pub asks : FillAsks mode g ls found counts s
  pub summed : Summed counts o (grid_cells g) all
  pub same : length o ≡ length counts
  pub space : all ≤ items
  pub listing : found ≤ globals

-- a refusal is due, by whose rule both slices are as they were
pub record DueRefusal (o s o' s' : List ℕ) (f : Answer Filling) (q : Refusal) : Type 0 where
  pub due : f ≡ refused q
  pub offsets : left_by 0 q o' ≡ left_by 0 q o
  pub scratch : left_by 0 q s' ≡ left_by 0 q s

-- by the answer: the tables are due, and can be laid out; some cell is crowded; or a refusal is due
abbrev pub PlanAs : Mode → Grid → Lines → ℕ → ℕ → List ℕ → List ℕ → List ℕ → List ℕ → Answer Filling → Result Filled Refusal → Type 0
PlanAs mode g ls items globals o s o' s' f (Ok (filled.Tables all found)) = (f ≡ gives made) × LayAsks mode g ls all found items globals o' s'
PlanAs mode g ls items globals o s o' s' f (Ok filled.Crowded) = f ≡ gives crowded
PlanAs mode g ls items globals o s o' s' f (Err q) = DueRefusal o s o' s' f q

pub record PlanIs (mode : Mode) (g : Grid) (ls : Lines) (items globals : ℕ) (o s o' s' : List ℕ) (f : Answer Filling) (r : Result Filled Refusal) : Type 0 where
  pub by : PlanAs mode g ls items globals o s o' s' f r
