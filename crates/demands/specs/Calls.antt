-- A full visit as calls of `visit::visits::batch`: each starts at the bookmark that the one before it answered, the first at 0, and the last
-- answers the total. Definitions only.
use Rattle.std.specs.Prelude.{Ok, ◌≡◌, ◌&&◌, ◌||◌, List, [], ◌∷◌, ◌++◌, ℕ, ◌+◌, eqb, length, take}
use Rattle.grid.specs.declared.Grid.{Grid}
use Rattle.grid.specs.Domain.{Lines}
use Rattle.tables.specs.Tables.{Tables}
use Rattle.visit.specs.declared.Tally.{Tally}
use Rattle.seek.specs.Tests.{tests_of}
use Rattle.visit.specs.Entries.{BatchIs}
use Rattle.visit.specs.Words.{one_where}

-- one call that was not refused: the two outputs before and after it, and its answer
pub record Call : Type 0 where
  pub «lent-first» : List ℕ
  pub «lent-second» : List ℕ
  pub first : List ℕ
  pub second : List ℕ
  pub tally : Tally

-- calls laid end to end, from the bookmark b on to the total; the promise of `batch` holds of each
abbrev pub EndToEnd : Lines → Grid → Tables → ℕ → List Call → Type 0
EndToEnd ls g t b [] = b ≡ length (tests_of t)
EndToEnd ls g t b (c ∷ cs) =
    BatchIs ls g t b c.«lent-first» c.«lent-second» c.first c.second (Ok c.tally)
    × EndToEnd ls g t c.tally.bookmark cs

-- a full visit
abbrev pub FullVisit : Lines → Grid → Tables → List Call → Type 0
FullVisit ls g t cs = EndToEnd ls g t 0 cs

-- what the calls handed out, one after another: of each output as many entries as the call answered overlaps
unfoldable pub firsts_of : List Call → List ℕ
firsts_of [] = []
firsts_of (c ∷ cs) = take c.tally.overlaps c.first ++ firsts_of cs

unfoldable pub seconds_of : List Call → List ℕ
seconds_of [] = []
seconds_of (c ∷ cs) = take c.tally.overlaps c.second ++ seconds_of cs

-- the sum of the tests that they answered
unfoldable pub tests_in : List Call → ℕ
tests_in [] = 0
tests_in (c ∷ cs) = c.tally.tests + tests_in cs

-- how often a and b stand beside each other in two lists, either of them first
unfoldable pub handed_out : ℕ → ℕ → List ℕ → List ℕ → ℕ
handed_out a b [] ys = 0
handed_out a b (x ∷ xs) [] = 0
handed_out a b (x ∷ xs) (y ∷ ys) = one_where ((eqb x a && eqb y b) || (eqb x b && eqb y a)) + handed_out a b xs ys
