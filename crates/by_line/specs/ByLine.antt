-- The lists by line of standing tables: for each line the cells that list it, increasing. Definitions only.
use Rattle.std.specs.Prelude.{ℕ, ◌≡◌, ◌&&◌, List, leb, ltb, length, Result, Ok, Err}
use Rattle.refusals.specs.declared.Refusal.{Refusal}
use Rattle.refusals.specs.Refusals.{Check, unless, Answer, gives, ◌then◌, answer_by, left_in}
use Rattle.grid.specs.declared.Grid.{Grid}
use Rattle.tables.specs.Tables.{Tables, cells, list_of}
use Rattle.tables.specs.Fit.{standing_check}
use Rattle.tables.specs.Lists.{lines_at, start, items_of, offsets_of}

-- the cells below c whose lists have a line, increasing
abbrev pub cells_before : Tables → ℕ → ℕ → List ℕ
cells_before t c line = lines_at (list_of t) c line

-- THE LIST OF A LINE: all cells that list it, increasing
abbrev pub cells_listing : Tables → ℕ → List ℕ
cells_listing t line = cells_before t (cells t) line

-- 3: the starts need an entry for each line and one more, and the lists as many as there are items, whether these count or not
unfoldable pub lists_room_check : ℕ → ℕ → ℕ → ℕ → Check
lists_room_check lines items starts listing = unless (ltb lines starts && leb items listing) 3 0

-- 3; then 2, 8 and 10 of the tables; else how many cells the lists have in all
unfoldable pub by_line : Grid → Tables → List ℕ → List ℕ → Answer ℕ
by_line g t starts listing =
    lists_room_check t.lines (length t.items) (length starts) (length listing) then standing_check g t then gives (start (cells_listing t) t.lines)

-- the answer r, and the two slices before and after: where the list of each line begins, and the lists one after another
pub record ByLineIs (g : Grid) (t : Tables) (starts listing : List ℕ) (r : Result ℕ Refusal) (starts' listing' : List ℕ) : Type 0 where
  pub answers : r ≡ answer_by Err Ok (by_line g t starts listing)
  pub starts_are : starts' ≡ left_in 0 starts (by_line g t starts listing) (λ total. offsets_of (cells_listing t) t.lines (length starts))
  pub listing_is : listing' ≡ left_in 0 listing (by_line g t starts listing) (λ total. items_of (cells_listing t) t.lines (length listing))
