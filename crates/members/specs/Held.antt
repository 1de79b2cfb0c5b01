-- Chains held as points with member lengths (document 02, 1): the points of all members in two slices, as bit patterns, and the number of points
-- of each member. Definitions only.
use Rattle.refusals.specs.Refusals.{Check}
use Rattle.std.specs.Prelude.{ℕ, ◌+◌, Bool, true, ◌&&◌, leb, eqb, length, take, drop}
use mathlib.Core.List.{List, [], ◌∷◌, zip_with}
use Rattle.refusals.specs.Refusals.{unless}
use Rattle.wkb.specs.Bytes.{Point}

-- the points of two slices
unfoldable pub points_of : List ℕ → List ℕ → List Point
points_of xs ys = zip_with (λ x y. record { x = x; y = y }) xs ys

-- cut into members by their numbers of points
unfoldable pub chains_of : {A : Type 0} → List ℕ → List A → List (List A)
chains_of [] ps = []
chains_of (n ∷ ns) ps = take n ps ∷ chains_of ns (drop n ps)

-- ---- what they must be

-- a member has 1 to 1,024 points
unfoldable pub is_length : ℕ → Bool
is_length n = leb 1 n && leb n 1024

unfoldable pub all_lengths : List ℕ → Bool
all_lengths [] = true
all_lengths (n ∷ ns) = is_length n && all_lengths ns

unfoldable pub sum_of : List ℕ → ℕ
sum_of [] = 0
sum_of (n ∷ ns) = n + sum_of ns

-- 3: the point slices, of lengths m and n, differ; members exceed 2^32 - 1; a length is 0 or above 1,024; the lengths don't add up to the points
unfoldable pub held_check : ℕ → ℕ → List ℕ → Check
held_check m n lengths = unless (eqb m n && (leb (length lengths) 4294967295 && (all_lengths lengths && eqb (sum_of lengths) m))) 3 0
