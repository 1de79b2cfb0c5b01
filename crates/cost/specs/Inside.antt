-- What the private functions ask and promise. Definitions only.
use Rattle.std.specs.Prelude.{ℕ, suc, ◌-◌, ◌≤◌, ◌<◌, ◌^◌, ◌≡◌, List, get_or}
use Rattle.tables.specs.InsideFit.{CellsFit}
use Rattle.seek.specs.Inside.{tri}
use Rattle.visit.specs.Words.{sum_below}
use Rattle.cost.specs.declared.Cost.{Cost}
use Rattle.cost.specs.Cost.{greatest}

-- how far an offset is from the next
abbrev pub gap : List ℕ → ℕ → ℕ
gap offsets c = get_or offsets (suc c) 0 - get_or offsets c 0

-- the offsets of m cells whose lists are parts of some items, and have at most 65,536 lines
pub record GapsAsk (m : ℕ) (offsets : List ℕ) : Type 0 where
  pub few : m ≤ 1002001
  pub items : List ℕ
  pub fits : CellsFit m offsets items
  pub short : (c : ℕ) → c < m → gap offsets c ≤ 65536

-- the tests of the cells' lists, and the longest of them
pub record CellsCost (m : ℕ) (offsets : List ℕ) (r : Cost) : Type 0 where
  pub tests : r.tests ≡ sum_below m (λ c. tri (gap offsets c))
  pub longest : r.longest ≡ greatest (gap offsets) m
  pub small : r.tests ≤ 2 ^ 62

pub record CostAsks (lines globals : ℕ) : Type 0 where
  pub few : lines ≤ 65536
  pub within : globals ≤ lines
