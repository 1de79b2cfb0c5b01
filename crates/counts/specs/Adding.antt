-- Document 02, change 8: adding count tables. Definitions only.
use Rattle.refusals.specs.Refusals.{Check, unless, and_then, each_from, Answer, refused, gives, ◌then◌, left_in}
use Rattle.std.specs.Prelude.{◌≡◌, List, ℕ, ◌+◌, ◌≤◌, leb, eqb, length, get_or, replicate}
use Rattle.tables.specs.Lists.{tabulate}

-- ---- two tables

-- the sum of their entries c
unfoldable pub sum_at : List ℕ → List ℕ → ℕ → ℕ
sum_at a b c = get_or a c 0 + get_or b c 0

-- 13: an entry's sum above 65,536; the first such entry
unfoldable pub sums_check : List ℕ → List ℕ → Check
sums_check a b = each_from (λ c. leb (sum_at a b c) 65536) 13 (length a) 0

-- 3 for unequal lengths, then 13
unfoldable pub add_check : List ℕ → List ℕ → Check
add_check a b = and_then (unless (eqb (length b) (length a)) 3 0) (sums_check a b)

-- the sum, entry by entry
unfoldable pub added : List ℕ → List ℕ → List ℕ
added a b = tabulate (sum_at a b) (length a)

-- what adding comes to: a refusal, or the sum
unfoldable pub add_of : List ℕ → List ℕ → Answer (List ℕ)
add_of a b = add_check a b then gives (added a b)

-- the promise: the sum in the place of the first table; both refusals change nothing
pub record SumIs (a b : List ℕ) (r : Check) (a' : List ℕ) : Type 0 where
  pub answer : r ≡ add_check a b
  pub table : a' ≡ left_in 0 a (add_of a b) (λ sum. sum)

-- ---- words of the laws

-- no entry above 65,536
unfoldable pub SmallCounts : List ℕ → Type 0
SmallCounts t = (c : ℕ) → get_or t c 0 ≤ 65536

-- a table of zeros
abbrev pub zeros : ℕ → List ℕ
zeros n = replicate n 0

-- "the same table or both are refused, though the entry named may differ"
abbrev pub Agree : Answer (List ℕ) → Answer (List ℕ) → Type 0
Agree (gives t) (gives u) = t ≡ u
Agree (gives t) (refused s) = ⊥
Agree (refused r) (gives u) = ⊥
Agree (refused r) (refused s) = Unit {0}
