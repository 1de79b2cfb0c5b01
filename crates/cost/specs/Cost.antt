-- What a visit of standing tables costs: how many tests it makes, and how many lines its longest list has. Definitions only.
use Rattle.std.specs.Prelude.{Ok, Err, Result, ℕ, zero, suc, cond, leb, length}
use Rattle.refusals.specs.declared.Refusal.{Refusal}
use Rattle.refusals.specs.Refusals.{gives, ◌then◌, answer_by}
use Rattle.grid.specs.declared.Grid.{Grid}
use Rattle.tables.specs.Tables.{Tables, cells, list_of}
use Rattle.tables.specs.Fit.{standing_check}
use Rattle.seek.specs.Tests.{tests_of}
use Rattle.cost.specs.declared.Cost.{Cost}

-- the greatest of f over the numbers below m, and 0 where there is none
unfoldable pub greatest : (ℕ → ℕ) → ℕ → ℕ
greatest f zero = 0
greatest f (suc m) = cond (leb (greatest f m) (f m)) (f m) (greatest f m)

-- the tests of a full visit, and the length of the longest list of a cell
abbrev pub cost_of : Tables → Cost
cost_of t = record { tests = length (tests_of t); longest = greatest (λ c. length (list_of t c)) (cells t) }

-- 2, 8 and 10 of the tables, else the cost
unfoldable pub cost_answer : Grid → Tables → (Result Cost Refusal)
cost_answer g t = answer_by Err Ok (standing_check g t then gives (cost_of t))
