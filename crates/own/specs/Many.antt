-- Document 02, 9: the owners of many points in one call. Each answer is that of the owner search, as a number. Definitions only.
use Rattle.std.specs.Prelude.{Ok, Err, ◌≡◌, ℕ, ◌+◌, ◌*◌, ◌/◌, ◌%◌, Bool, cond, ◌&&◌, List, [], ◌∷◌, length, ◌==◌, slice_index_or, Float}
use Rattle.std.specs.Float.{nan}
use Rattle.refusals.specs.Refusals.{Check, unless, each_from, Answer, gives, ◌then◌, answer_by, left_in}
use Rattle.grid.specs.declared.Grid.{Grid}
use Rattle.grid.specs.Domain.{point, grid_check}
use Rattle.own.specs.declared.Owner.{Owner}
use Rattle.own.specs.declared.Owner.TheVariants.{Cell, Seam, Outside}
use Rattle.own.specs.Owner.{owner_of}

-- ---- which number stands for which answer

-- the number of a cell; above all of them 2^32 - 2 for a seam, and 2^32 - 1 for outside
unfoldable pub owner_number : ℕ → Owner → ℕ
owner_number cols (Cell row col) = row * cols + col
owner_number cols Seam = 4294967294
owner_number cols Outside = 4294967295

-- and which answer a number stands for
unfoldable pub owner_by : ℕ → ℕ → Owner
owner_by cols n = cond (n == 4294967294) Seam (cond (n == 4294967295) Outside (Cell (n / cols) (n % cols)))

-- ---- the answers

-- point by point
unfoldable pub owners_of : Grid → List Float → List Float → List ℕ
owners_of g [] ys = []
owners_of g (x ∷ xs) [] = []
owners_of g (x ∷ xs) (y ∷ ys) = owner_number g.cols (owner_of g x y) ∷ owners_of g xs ys

-- 3: the slices differ in length
unfoldable pub alike_check : ℕ → ℕ → ℕ → Check
alike_check xs ys answers = unless (ys == xs && answers == xs) 3 0

-- 1: a coordinate breaks the rule; the first such point
unfoldable pub point_fits : List Float → List Float → ℕ → Bool
point_fits xs ys i = point (slice_index_or xs i nan) (slice_index_or ys i nan)

unfoldable pub points_check : List Float → List Float → Check
points_check xs ys = each_from (point_fits xs ys) 1 (length xs) 0

-- after refusals 3, 1 and 8
unfoldable pub owners_end : Grid → List Float → List Float → ℕ → Answer (List ℕ)
owners_end g xs ys answers =
    alike_check (length xs) (length ys) answers then points_check xs ys then grid_check g then gives (owners_of g xs ys)

-- the refusal that is due, or none
unfoldable pub owners_check : Grid → List Float → List Float → ℕ → Check
owners_check g xs ys answers = answer_by Err (λ owners. (Ok tt)) (owners_end g xs ys answers)

-- The promise: the refusal that is due, or none, and what the answers hold then: all of them, or what a refusal leaves, which is what they held.
pub record OwnersAre (g : Grid) (xs ys : List Float) (was : List ℕ) (r : Check) (now : List ℕ) : Type 0 where
  pub answer : r ≡ owners_check g xs ys (length was)
  pub left : now ≡ left_in 0 was (owners_end g xs ys (length was)) (λ owners. owners)
