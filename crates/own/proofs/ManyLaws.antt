-- The owners of many points: which number stands for which answer, that they tell all answers apart, and the answers entry by entry.
-- Assumes nothing.
use Rattle.std.specs.Prelude.{Ok, Err}
use Rattle.std.proofs.Common.{◌≡◌, ℕ, zero, suc, ◌+◌, ◌-◌, ◌*◌, ◌<◌, ◌≤◌, true, false, List, [], ◌∷◌, ◌++◌, length, get_or, take, drop, set, sym, refl, ap, ◌∙◌, subst, ap₂, append-nil, add-one, arith, length-set, drop_of_length-le, take_all, ne_eqb}
use lib.Ieee.{Float, nan}
use Rattle.refusals.specs.Refusals.{refusal, each_from}
use Rattle.refusals.proofs.Checks.{each_good, each_bad, each_over, each_says}
use Rattle.grid.specs.declared.Grid.{Grid}
use Rattle.grid.specs.Domain.{coordinate, point, fit}
use Rattle.grid.proofs.Bools.{and_left, and_right}
use Rattle.grid.proofs.Shapes.{fit_says, cell_inside, col_of, row_of_lem}
use Rattle.own.specs.declared.Owner.{Owner}
use Rattle.own.specs.declared.Owner.TheVariants.{Cell, Seam, Outside}
use Rattle.own.specs.Owner.{owner_of}
use Rattle.own.specs.Cases.{Case}
use Rattle.own.specs.Many.{owner_number, owner_by, owners_of, point_fits, points_check}
use Rattle.own.specs.Inside.{PointAskable}
use Rattle.own.proofs.ThreeCases.{its_case}

-- ---- the numbers

-- a point's answers on a grid whose cells are numbered below the other two answers
module _ (g : Grid) (few : g.rows * g.cols ≤ 4294967294) (x y : Float) where
  -- the number says the answer
  pub told : (o : Owner) → Case g x y o → owner_by g.cols (owner_number g.cols o) ≡ o
  unfolding owner_by owner_number
  told (Cell row col) h =
      let n = cell_inside g.rows g.cols row col h.in_row h.in_col in
      let u = ne_eqb (row * g.cols + col) 4294967294 (λ e. omega arith) in
      let v = ne_eqb (row * g.cols + col) 4294967295 (λ e. omega arith) in
      rw (u, v) (ap₂ Cell (row_of_lem g.cols row col h.in_col) (col_of g.cols row col h.in_col))
  told Seam h = refl
  told Outside h = refl

-- so two answers that have one number are the same answer
pub apart : (g : Grid) → g.rows * g.cols ≤ 4294967294 → (x y x' y' : Float) (o o' : Owner) → Case g x y o → Case g x' y' o'
    → owner_number g.cols o ≡ owner_number g.cols o' → o ≡ o'
apart g few x y x' y' o o' h k e = sym (told g few x y o h) ∙ ap (owner_by g.cols) e ∙ told g few x' y' o' k

-- a cell's number is below that of its grid's cells
pub cell_below : (g : Grid) (x y : Float) (row col : ℕ) → Cell row col ≡ owner_of g x y → row * g.cols + col < g.rows * g.cols
cell_below g x y row col e =
    let h = subst (Case g x y) (sym e) (its_case g x y) in
    cell_inside g.rows g.cols row col h.in_row h.in_col

-- and a cell's number fits wherever the number of its owner does
pub cell_fits : (cols : ℕ) (o : Owner) (row col limit : ℕ) → o ≡ Cell row col → owner_number cols o < limit → row * cols + col < limit
unfolding owner_number
cell_fits cols o row col limit e h = rw e at h

number_below : (g : Grid) (x y : Float) → g.rows * g.cols ≤ 1002001 → (o : Owner) → Case g x y o → owner_number g.cols o < 4294967296
unfolding owner_number
number_below g x y few (Cell row col) h = let n = cell_inside g.rows g.cols row col h.in_row h.in_col in omega arith
number_below g x y few Seam h = omega arith
number_below g x y few Outside h = omega arith

pub number_fits : (g : Grid) (x y : Float) (o : Owner) → g.rows * g.cols ≤ 1002001 → o ≡ owner_of g x y → owner_number g.cols o < 4294967296
number_fits g x y o few e = number_below g x y few o (subst (Case g x y) (sym e) (its_case g x y))

-- ---- the answers, entry by entry

pub owners_length : (g : Grid) (xs ys : List Float) → length ys ≡ length xs → length (owners_of g xs ys) ≡ length xs
unfolding owners_of
owners_length g [] ys h = refl
owners_length g (x ∷ xs) [] h = absurd (omega (arith, h))
owners_length g (x ∷ xs) (y ∷ ys) h = ap suc (owners_length g xs ys (omega (arith, h)))

pub owners_at : (g : Grid) (xs ys : List Float) (i : ℕ) → length ys ≡ length xs → i < length xs
    → get_or (owners_of g xs ys) i 0 ≡ owner_number g.cols (owner_of g (get_or xs i nan) (get_or ys i nan))
unfolding owners_of
owners_at g [] ys i h l = absurd (omega (arith, l))
owners_at g (x ∷ xs) [] i h l = absurd (omega (arith, h))
owners_at g (x ∷ xs) (y ∷ ys) zero h l = refl
owners_at g (x ∷ xs) (y ∷ ys) (suc i) h l = owners_at g xs ys i (omega (arith, h)) (omega (arith, l))

-- ---- a slice that is written from its start on: what is told, then what it held

pub told_more : (t was : List ℕ) (i v : ℕ) → length was ≡ length t → i < length t → v ≡ get_or t i 0 → set (take i t ++ drop i was) i v ≡ take (suc i) t ++ drop (suc i) was
told_more [] was i v h l e = absurd (omega (arith, l))
told_more (a ∷ t) [] i v h l e = absurd (omega (arith, h))
told_more (a ∷ t) (b ∷ was) zero v h l e = ap (λ (z : ℕ). z ∷ was) e
told_more (a ∷ t) (b ∷ was) (suc i) v h l e = ap (λ (z : List ℕ). a ∷ z) (told_more t was i v (omega (arith, h)) (omega (arith, l)) e)

-- ---- what the checks say of a point

pub askable : (g : Grid) (x y : Float) → fit g ≡ true → point x y ≡ true → PointAskable g x y
unfolding point
askable g x y f p =
    let fits = fit_says g f in
    record {
      across = record { low = fits.«min_x»; size = fits.«cell-width»; few = fits.counts.wide; point = and_left (coordinate x) (coordinate y) p };
      up = record { low = fits.«min_y»; size = fits.«cell-height»; few = fits.counts.high; point = and_right (coordinate x) (coordinate y) p };
      few = fits.counts.cells;
    }

pub point_at : (xs ys : List Float) (i : ℕ) → points_check xs ys ≡ Ok tt → i < length xs → point (get_or xs i nan) (get_or ys i nan) ≡ true
unfolding points_check point_fits
point_at xs ys i h l = each_says (point_fits xs ys) 1 (length xs) 0 i h (omega arith) (omega arith)

-- ---- the search for the first bad point, and the writing of the answers

-- the search stands at point i: no point before it was bad
pub record Sought (xs ys : List Float) (i : ℕ) : Type 0 where
  pub alike : length ys ≡ length xs
  pub at : i ≤ length xs
  pub rest : points_check xs ys ≡ each_from (point_fits xs ys) 1 (length xs - i) i

pub sought_none : (xs ys : List Float) → length ys ≡ length xs → Sought xs ys 0
unfolding points_check
sought_none xs ys h = let e : length xs - 0 ≡ length xs = omega arith in record { alike = h; at = omega arith; rest = rw e }

module _ {xs ys : List Float} {i : ℕ} (h : Sought xs ys i) where
  pub sought_more : i < length xs → point_fits xs ys i ≡ true → Sought xs ys (i + 1)
  sought_more l e = record { alike = h.alike; at = omega arith; rest = h.rest ∙ each_good (point_fits xs ys) 1 (length xs) i l e }

  pub sought_bad : i < length xs → point_fits xs ys i ≡ false → Err (refusal 1 i) ≡ points_check xs ys
  sought_bad l e = sym (h.rest ∙ each_bad (point_fits xs ys) 1 (length xs) i l e)

  pub sought_over : length xs ≤ i → (Ok tt) ≡ points_check xs ys
  sought_over l = sym (h.rest ∙ each_over (point_fits xs ys) 1 (length xs) i l)

-- the first i answers are written
pub record Telling (g : Grid) (xs ys : List Float) (was now : List ℕ) (i : ℕ) : Type 0 where
  pub alike : length ys ≡ length xs
  pub room : length was ≡ length xs
  pub same : length now ≡ length xs
  pub at : i ≤ length xs
  pub is : now ≡ take i (owners_of g xs ys) ++ drop i was

pub telling_none : (g : Grid) (xs ys : List Float) (was : List ℕ) → length ys ≡ length xs → length was ≡ length xs → Telling g xs ys was was 0
telling_none g xs ys was h k = record { alike = h; room = k; same = k; at = omega arith; is = refl }

module _ {g : Grid} {xs ys : List Float} {was now : List ℕ} {i : ℕ} (h : Telling g xs ys was now i) where
  all : length (owners_of g xs ys) ≡ length xs
  all = owners_length g xs ys h.alike

  pub telling_more : (v : ℕ) → i < length xs → v ≡ owner_number g.cols (owner_of g (get_or xs i nan) (get_or ys i nan)) → Telling g xs ys was (set now i v) (i + 1)
  telling_more v l e =
      let same = h.same in
      record {
        alike = h.alike;
        room = h.room;
        same = length-set now i v ∙ same;
        at = omega arith;
        is =
            ap (λ (z : List ℕ). set z i v) h.is
            ∙ told_more (owners_of g xs ys) was i v (h.room ∙ sym all) (omega (arith, all)) (e ∙ sym (owners_at g xs ys i h.alike l))
            ∙ rw add-one;
      }

  pub telling_over : length xs ≤ i → now ≡ owners_of g xs ys
  telling_over l =
      h.is
      ∙ ap₂ ◌++◌ (take_all i (owners_of g xs ys) (omega (arith, all))) (drop_of_length-le was {i = i} (omega (arith, h.room)))
      ∙ append-nil (owners_of g xs ys)
