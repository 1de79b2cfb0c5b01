-- What a visit that hands out each pair once is lent, what it begins with, and what it leaves there. Definitions only.
use Rattle.std.specs.Prelude.{ℕ, ◌≡◌, cond, List, leb, eqb, length, replicate, Result, Ok, Err}
use Rattle.refusals.specs.declared.Refusal.{Refusal}
use Rattle.refusals.specs.Refusals.{Check, unless, and_then, gives, ◌then◌, answer_by}
use Rattle.slices.specs.Slices.{cleared_from}
use Rattle.grid.specs.declared.Grid.{Grid}
use Rattle.tables.specs.Tables.{Tables}
use Rattle.tables.specs.Fit.{standing_check}
use Rattle.tables.specs.Lists.{offsets_of, items_of}
use Rattle.by_line.specs.ByLine.{cells_listing, lists_room_check}

-- ---- the beginning

-- 3: the outputs differ in length, the lists by line have too little room, or there is no count for each line
unfoldable pub rooms_check : ℕ → ℕ → ℕ → ℕ → ℕ → ℕ → ℕ → Check
rooms_check lines items first second starts listing counts =
    and_then (unless (eqb first second) 3 0) (and_then (lists_room_check lines items starts listing) (unless (leb lines counts) 3 0))

-- 3, of what is lent; then what the check of the lines found; then 2, 8 and 10 of the tables
unfoldable pub begin_check : Check → Grid → Tables → ℕ → ℕ → ℕ → ℕ → ℕ → Check
begin_check checked g t first second starts listing counts =
    and_then (rooms_check t.lines (length t.items) first second starts listing counts) (and_then checked (standing_check g t))

-- what is left in a slice: as it was, where the check refuses
unfoldable pub kept_or : Check → List ℕ → List ℕ → List ℕ
kept_or (Ok _) s s' = s'
kept_or (Err r) s s' = s

-- the answer r, and the three slices before and after: the lists by line, and counts that are zero
pub record Begun (checked : Check) (g : Grid) (t : Tables) (first second : ℕ) (starts listing counts : List ℕ) (r : Check) (starts' listing' counts' : List ℕ) : Type 0 where
  pub answers : r ≡ begin_check checked g t first second (length starts) (length listing) (length counts)
  pub starts_are : starts' ≡ kept_or r starts (offsets_of (cells_listing t) t.lines (length starts))
  pub listing_is : listing' ≡ kept_or r listing (items_of (cells_listing t) t.lines (length listing))
  pub counts_are : counts' ≡ kept_or r counts (replicate (length counts) 0)

-- ---- the end of a visit

-- 5: the outputs have no room for so many pairs
unfoldable pub pairs_check : ℕ → ℕ → Check
pairs_check number room = unless (leb number room) 5 number

-- so many pairs, or that there is no room for them
unfoldable pub pairs_end : ℕ → ℕ → Result ℕ Refusal
pairs_end hits room = answer_by Err Ok (pairs_check hits room then gives hits)

-- an output that holds so many pairs: zero beyond them; where there is no room for them, zero throughout
unfoldable pub end_left : ℕ → ℕ → List ℕ → List ℕ
end_left hits room s = cond (leb hits room) (cleared_from hits s) (replicate (length s) 0)

pub record EndIs (hits : ℕ) (first second starts listing counts : List ℕ) (r : Result ℕ Refusal) (first' second' starts' listing' counts' : List ℕ) : Type 0 where
  pub answers : r ≡ pairs_end hits (length first)
  pub first_is : first' ≡ end_left hits (length first) first
  pub second_is : second' ≡ end_left hits (length first) second
  pub starts_are : starts' ≡ replicate (length starts) 0
  pub listing_is : listing' ≡ replicate (length listing) 0
  pub counts_are : counts' ≡ replicate (length counts) 0
