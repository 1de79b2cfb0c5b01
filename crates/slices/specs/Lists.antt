-- Members, bounds and order of lists of numbers: words for definitions and laws of the crates above. Assumes nothing.
use Rattle.std.specs.Prelude.{ℕ, suc, ◌≤◌, ◌<◌, Bool, false, ◌||◌, List, [], ◌∷◌, eqb}

-- some entry passes the test
abbrev pub any : (ℕ → Bool) → List ℕ → Bool
any f [] = false
any f (x ∷ xs) = f x || any f xs

-- v is an entry
abbrev pub elem : ℕ → List ℕ → Bool
elem v xs = any (eqb v) xs

-- each entry is below n
abbrev pub Below : ℕ → List ℕ → Type 0
Below n [] = Unit {0}
Below n (x ∷ xs) = (x < n) × Below n xs

-- the entries never fall, and the first is at least `low`
abbrev pub Ordered : ℕ → List ℕ → Type 0
Ordered low [] = Unit {0}
Ordered low (x ∷ xs) = (low ≤ x) × Ordered x xs

-- the entries increase, none twice, and the first is at least `low`
abbrev pub Rising : ℕ → List ℕ → Type 0
Rising low [] = Unit {0}
Rising low (x ∷ xs) = (low ≤ x) × Rising (suc x) xs
