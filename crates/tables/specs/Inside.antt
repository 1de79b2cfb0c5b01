-- What the private functions ask and promise: the check of the lists. An entry breaks a list if it is not above the one before it, or above the
-- most that an entry may be. Lists laid end to end all rise exactly where each break stands where a list begins, so that two counts tell: that of all
-- breaks, and that of the breaks at which a list begins and whose entry is at most the most. Definitions only.
use Rattle.std.specs.Prelude.{ℕ, suc, ◌-◌, ◌≤◌, ◌<◌, ◌^◌, ◌≡◌, Bool, cond, ◌&&◌, ◌||◌, List, length, get_or, leb, ltb, eqb}
use Rattle.tables.specs.Lists.{sum}

-- whether an entry is not above the one before it; the first one has none before it, and is not
abbrev pub falls_at : List ℕ → ℕ → Bool
falls_at xs k = leb (get_or xs k 0) (get_or xs (k - 1) 0)

-- 1 where an entry breaks a list, else 0
unfoldable pub break_at : ℕ → List ℕ → ℕ → ℕ
break_at most xs k = cond (falls_at xs k || ltb most (get_or xs k 0)) 1 0

-- the entry where a list between two offsets begins; where it is empty, the first of all
abbrev pub begin_of : ℕ → ℕ → ℕ
begin_of from to = cond (ltb from to) from 0

-- 1 where a list between two offsets begins with an entry that is not above the one before it, and at most the most; else 0
unfoldable pub begin_by : ℕ → List ℕ → ℕ → ℕ → ℕ
begin_by most xs from to =
    cond (ltb from to && (falls_at xs (begin_of from to) && leb (get_or xs (begin_of from to) 0) most)) 1 0

-- ... the list of cell c
abbrev pub begin_at : ℕ → List ℕ → List ℕ → ℕ → ℕ
begin_at most offsets xs c = begin_by most xs (get_or offsets c 0) (get_or offsets (suc c) 0)

-- offsets of m cells that begin with 0, never fall, and end with the items
pub record LaidOut (m : ℕ) (offsets items : List ℕ) : Type 0 where
  pub long : m < length offsets
  pub first : get_or offsets 0 0 ≡ 0
  pub rises : (c : ℕ) → c < m → get_or offsets c 0 ≤ get_or offsets (suc c) 0
  pub last : get_or offsets m 0 ≡ length items
  pub small : length items < 2 ^ 32

-- ... where there is an item
pub record BeginsAsk (m : ℕ) (offsets items : List ℕ) : Type 0 where
  pub laid : LaidOut m offsets items
  pub some : 0 < length items

-- ---- the two counts, as far as they have come

-- the first k entries, of which there is one
pub record BreaksTo (most : ℕ) (xs : List ℕ) (many k : ℕ) : Type 0 where
  pub begun : 0 < k
  pub within : k ≤ length xs
  pub small : length xs < 2 ^ 32
  pub is : many ≡ sum (break_at most xs) k
  pub few : many ≤ k

-- ... and those up to a further one
pub record BreaksMore (most : ℕ) (xs : List ℕ) (many from to : ℕ) : Type 0 where
  pub seen : BreaksTo most xs many from
  pub up : from ≤ to
  pub inside : to ≤ length xs

-- the lists of the first c cells
pub record BeginsTo (most m : ℕ) (offsets xs : List ℕ) (many c : ℕ) : Type 0 where
  pub asks : BeginsAsk m offsets xs
  pub at : c ≤ m
  pub is : many ≡ sum (begin_at most offsets xs) c
  pub few : many ≤ c

-- ... and those up to a further one
pub record BeginsMore (most m : ℕ) (offsets xs : List ℕ) (many from to : ℕ) : Type 0 where
  pub seen : BeginsTo most m offsets xs many from
  pub up : from ≤ to
  pub inside : to ≤ m

-- n, and 1 in place of 0
unfoldable pub one_at_least : ℕ → ℕ
one_at_least n = cond (eqb n 0) 1 n
