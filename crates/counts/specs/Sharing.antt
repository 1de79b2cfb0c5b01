-- Document 02, change 8: "each line is counted on exactly one bench". Lines go by their numbers, so that a sharing is any lists of numbers, in any
-- order, for any number of benches. Definitions only.
use Rattle.std.specs.Prelude.{◌≡◌, List, [], ◌∷◌, ℕ, ◌+◌, ◌≤◌, ◌<◌, eqb, Float, length, get_or}
use Rattle.std.specs.Float.{nan}
use Rattle.refusals.specs.Refusals.{Answer, gives, ◌then◌, ◌into◌}
use Rattle.grid.specs.declared.Grid.{Grid}
use Rattle.grid.specs.Domain.{Lines, lines}
use Rattle.walk.specs.declared.Mode.{Mode}
use Rattle.fill.specs.OnGrid.{globals_on, total, one_if, counts_on}
use Rattle.fill.specs.Checks.{counting_check}
use Rattle.counts.specs.Adding.{add_of}

-- ---- the lines of a bench

-- the entries at these numbers
unfoldable pub entries : List Float → List ℕ → List Float
entries xs [] = []
entries xs (i ∷ is) = get_or xs i nan ∷ entries xs is

-- the lines of these numbers, in their order
unfoldable pub taken : Lines → List ℕ → Lines
taken ls is = lines (entries ls.start_x is) (entries ls.start_y is) (entries ls.end_x is) (entries ls.end_y is)

-- ---- the benches

-- a bench that counts the lines of these numbers; or two groups of benches, whose tables are added
pub data Benches : Type 0 where
  bench : List ℕ → Benches
  both : Benches → Benches → Benches

-- how often line i is counted
unfoldable pub times_counted : ℕ → List ℕ → ℕ
times_counted i [] = 0
times_counted i (k ∷ ks) = one_if (eqb i k) + times_counted i ks

unfoldable pub times_on : ℕ → Benches → ℕ
times_on i (bench is) = times_counted i is
times_on i (both a b) = times_on i a + times_on i b

-- of n lines each is counted on exactly one bench, and there once; nothing else is counted
pub record Shared (n : ℕ) (bs : Benches) : Type 0 where
  pub once : (i : ℕ) → i < n → times_on i bs ≡ 1
  pub others : (i : ℕ) → n ≤ i → times_on i bs ≡ 0

-- ---- counting

-- the table that a count of lines leaves in so many entries, or its refusal
unfoldable pub table_of : Mode → Grid → ℕ → ℕ → Lines → Answer (List ℕ)
table_of mode g room scratch ls = counting_check mode g ls room scratch then gives (counts_on mode g ls room)

-- the table that benches come to: each counts its share, and groups add theirs
unfoldable pub table_by : Mode → Grid → ℕ → ℕ → Lines → Benches → Answer (List ℕ)
table_by mode g room scratch ls (bench is) = table_of mode g room scratch (taken ls is)
table_by mode g room scratch ls (both a b) =
    table_by mode g room scratch ls a into (λ t. table_by mode g room scratch ls b into (λ u. add_of t u))

-- how many lines are global on all benches, and how much all their tables count
unfoldable pub globals_on_all : Mode → Grid → Lines → Benches → ℕ
globals_on_all mode g ls (bench is) = length (globals_on mode g (taken ls is))
globals_on_all mode g ls (both a b) = globals_on_all mode g ls a + globals_on_all mode g ls b

unfoldable pub listed_by : Mode → Grid → Lines → Benches → ℕ
listed_by mode g ls (bench is) = total mode g (taken ls is)
listed_by mode g ls (both a b) = listed_by mode g ls a + listed_by mode g ls b
