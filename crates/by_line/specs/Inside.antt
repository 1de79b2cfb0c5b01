-- What the private functions ask and promise. Definitions only.
use Rattle.std.specs.Prelude.{ℕ, ◌≤◌, ◌<◌, ◌^◌, ◌≡◌, List, length}
use Rattle.tables.specs.Tables.{list_in}
use Rattle.tables.specs.Lists.{Walks, lines_at, start, items_of, offsets_of}
use Rattle.tables.specs.InsideFit.{CellsFit}
use Rattle.tables.specs.InsidePasses.{Counted, Placed}

-- the lists of m cells as walks through n lines, that are to be turned round
pub record TurnAsks (m n : ℕ) (offsets items : List ℕ) : Type 0 where
  pub fits : CellsFit m offsets items
  pub walks : Walks (list_in offsets items) m n
  pub few_lines : n < 2 ^ 32
  pub few_cells : m < 2 ^ 32

pub record ListCountAsks (m n : ℕ) (offsets items counts : List ℕ) : Type 0 where
  pub table : TurnAsks m n offsets items
  pub room : n ≤ length counts
  pub counted : Counted (lines_at (list_in offsets items) 0) counts

pub record ListPlaceAsks (m n : ℕ) (offsets items starts listing : List ℕ) : Type 0 where
  pub table : TurnAsks m n offsets items
  pub room : n < length starts
  pub space : start (lines_at (list_in offsets items) m) n ≤ length listing
  pub small : start (lines_at (list_in offsets items) m) n < 2 ^ 32
  pub placed : Placed (lines_at (list_in offsets items) m) n (lines_at (list_in offsets items) 0) starts listing

pub record MakeAsks (m n : ℕ) (offsets items starts listing : List ℕ) : Type 0 where
  pub table : TurnAsks m n offsets items
  pub room : n < length starts
  pub space : start (lines_at (list_in offsets items) m) n ≤ length listing
  pub small : start (lines_at (list_in offsets items) m) n < 2 ^ 32

pub record Made (m n : ℕ) (offsets items starts listing starts' listing' : List ℕ) : Type 0 where
  pub starts_are : starts' ≡ offsets_of (lines_at (list_in offsets items) m) n (length starts)
  pub listing_is : listing' ≡ items_of (lines_at (list_in offsets items) m) n (length listing)
