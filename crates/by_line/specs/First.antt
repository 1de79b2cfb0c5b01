-- Whether two lines met before, from the lists by line and how many of each list's cells were visited. Definitions only.
use Rattle.std.specs.Prelude.{ℕ, zero, suc, ◌+◌, Bool, true, false, not, cond, ◌&&◌, ◌||◌, List, [], leb, ltb, eqb, length, get_or}
use Rattle.std.proofs.Math.Seq.{slice}
use Rattle.slices.specs.Lists.{elem}

-- whether the first i of a list and the first j of another have an entry in common, where both increase: the last two are compared, and the
-- greater is no entry of the other
unfoldable pub meets : List ℕ → List ℕ → ℕ → ℕ → Bool
meets xs ys zero j = false
meets xs ys (suc i) zero = false
meets xs ys (suc i) (suc j) =
    cond (eqb (get_or xs i 0) (get_or ys j 0)) true (cond (ltb (get_or xs i 0) (get_or ys j 0)) (meets xs ys (suc i) j) (meets xs ys i (suc j)))

-- the first so many cells of a line; what is no part of the lists is empty
unfoldable pub front_of : ℕ → List ℕ → List ℕ → List ℕ → List ℕ
front_of line starts listing counts =
    cond (ltb line (length starts) && (ltb line (length counts) && leb (get_or starts line 0 + get_or counts line 0) (length listing)))
    (slice (get_or starts line 0) (get_or starts line 0 + get_or counts line 0) listing) []

-- whether they have a cell in common
unfoldable pub meet_before : ℕ → ℕ → List ℕ → List ℕ → List ℕ → Bool
meet_before a b starts listing counts =
    let xs = front_of a starts listing counts in
    let ys = front_of b starts listing counts in
    meets xs ys (length xs) (length ys)

-- whether a test of two lines is their first, by the bits that their marks have in common: with fewer than `sure` it is; else it is looked up
unfoldable pub first_by : ℕ → ℕ → ℕ → ℕ → List ℕ → List ℕ → List ℕ → Bool
first_by common sure a b starts listing counts = cond (ltb common sure) true (not (meet_before a b starts listing counts))

-- some number below n passes a test
unfoldable pub some_below : ℕ → (ℕ → Bool) → Bool
some_below zero f = false
some_below (suc n) f = some_below n f || f n

-- SOME CELL BELOW c lists both lines
unfoldable pub met_below : (ℕ → List ℕ) → ℕ → ℕ → ℕ → Bool
met_below list c a b = some_below c (λ k. elem a (list k) && elem b (list k))
