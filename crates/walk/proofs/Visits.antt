-- What a segment's cells are, for the crates above: increasing, inside the grid, few unless they are all; by turns also just the cells that were pushed.
-- Assumes nothing.
use mathlib.Core.Path.{◌≡◌, refl, sym, ap, ◌∙◌, subst}
use Prim.Native.Nat.{ℕ, zero, suc, ◌+◌, ◌-◌, ◌*◌, ◌/◌, ◌%◌, ◌≤◌, ◌<◌}
use native.Mathlib.Nat.{div-lt_iff_lt-mul, div-add-mod'}
use native.Mathlib.Omega.{arith}
use mathlib.Core.Bool.{Bool, true, false, true≢false}
use mathlib.Core.List.{List, [], ◌∷◌, ◌++◌, flat_map}
use lib.ListN.{length, length-append}
use lib.Dec.{ltb, eqb}
use lib.Ieee.{Float}
use borrow.Author.Tests.{ltb-true}
use Rattle.slices.specs.Slices.{sorted, distinct_of}
use Rattle.slices.specs.Lists.{elem, Below, Rising}
use Rattle.slices.proofs.Members.{elem_one_of_each, below_append, below_one_of_each}
use Rattle.slices.proofs.Distinct.{one_of_each_rising, length_one_of_each}
use Rattle.refusals.specs.declared.Refusal.{Refusal}
use Rattle.refusals.specs.Refusals.{refusal, refused, gives, ◌into◌}
use Rattle.refusals.proofs.Answers.{apart}
use Rattle.grid.specs.declared.Grid.{Grid}
use Rattle.grid.specs.declared.Segment.{Segment}
use Rattle.grid.specs.Axes.{x_axis, y_axis}
use Rattle.grid.specs.Domain.{shape, fit}
use Rattle.grid.proofs.Shapes.{Shape, shape_says, fit_shape, cell_inside}
use Rattle.cover.specs.Covering.{covering_of}
use Rattle.cover.proofs.Laws.{covering_rises, found_few, everywhere_all}
use Rattle.walk.specs.declared.Mode.{Mode}
use Rattle.walk.specs.declared.Neighbour.{Neighbour}
use Rattle.walk.specs.declared.Neighbour.TheVariants.{None, Lower, Upper}
use Rattle.turns.specs.Turns.{ray_of, start_of}
use Rattle.turns.specs.Pushes.{Outcome, walked_of}
use Rattle.walk.specs.Neighbours.{neighbour_on, along_on, low_col_of, up_col_of, low_row_of, up_row_of, column_of, row_of, beside_of, line_of, cell_of, endpoint_of}
use Rattle.walk.specs.Segment.{pushes_of, answered, by_turns, unless_none, turns_of, turning, segment_of, everywhere_in}
use Rattle.walk.specs.Inside.{share}
use Rattle.walk.proofs.Flat.{flat_le, flat_below, cond_below}
use Rattle.walk.proofs.Added.{beside_le, cell_below, end_le}
use Rattle.walk.proofs.Room.{share_few}
use Rattle.turns.proofs.Pushed.{no_cells, same_cells, walked_refused}
use Rattle.turns.proofs.Few.{Few, walked_few}
use Rattle.walk.proofs.Answer.{segment_is}
use Rattle.walk.proofs.Reaching.{segment_turns, segment_covers, covering_everywhere, everywhere_covers}

-- ---- what is added is inside the grid

-- the next column of a row has a cell there
next_below : (rows cols c : ℕ) → c < rows * cols → c % cols + 1 < cols → c + 1 < rows * cols
next_below rows cols c h k =
    let r : c / cols < rows = (div-lt_iff_lt-mul {k = cols} {x = c} {y = rows} (omega arith)).1 h in
    let e : c / cols * cols + c % cols ≡ c = div-add-mod' c cols in
    omega (arith, cell_inside rows cols (c / cols) (c % cols + 1) r k)

module _ (rows cols : ℕ) where
  abbrev n : ℕ
  n = rows * cols

  column_below : (x : Neighbour) (c : ℕ) → c < n → Below n (column_of x cols c)
  unfolding column_of
  column_below None c h = tt
  column_below Lower c h = unfold low_col_of in cond_below n (eqb (c % cols) 0) [] ((c - 1) ∷ []) (λ e. tt) (λ e. (omega arith, tt))
  column_below Upper c h = unfold up_col_of in cond_below n (ltb (c % cols + 1) cols) ((c + 1) ∷ []) [] (λ e. (next_below rows cols c h (ltb-true (c % cols + 1) cols e), tt)) (λ e. tt)

  row_below : (y : Neighbour) (c : ℕ) → c < n → Below n (row_of y cols n c)
  unfolding row_of
  row_below None c h = tt
  row_below Lower c h = unfold low_row_of in cond_below n (ltb c cols) [] ((c - cols) ∷ []) (λ e. tt) (λ e. (omega arith, tt))
  row_below Upper c h = unfold up_row_of in cond_below n (ltb (c + cols) n) ((c + cols) ∷ []) [] (λ e. (ltb-true (c + cols) n e, tt)) (λ e. tt)

  beside_below : (x y : Neighbour) (c : ℕ) → c < n → Below n (beside_of x y cols n c)
  unfolding beside_of
  beside_below x y c l =
      below_append n (column_of x cols c ++ row_of y cols n c) (flat_map (row_of y cols n) (column_of x cols c))
      (below_append n (column_of x cols c) (row_of y cols n c) (column_below x c l) (row_below y c l))
      (flat_below n (row_of y cols n) (row_below y) (column_of x cols c) (column_below x c l))

-- ---- the answer

pub record Visits (g : Grid) (xs : List ℕ) : Type 0 where
  pub rising : Rising 0 xs
  pub inside : Below (g.rows * g.cols) xs
  pub few : length xs ≤ 15008

module _ (mode : Mode) (g : Grid) (line : Segment) where
  end_below : Shape g.cols g.rows → 0 < g.cols → (x y : Float) → Below (g.rows * g.cols) (endpoint_of mode g x y)
  unfolding endpoint_of
  end_below s h x y = beside_below g.rows g.cols (neighbour_on mode (x_axis g) x) (neighbour_on mode (y_axis g) y) (cell_of g x y) (cell_below g x y s h)

  pushes_visit : (walked : List ℕ) → Shape g.cols g.rows → 0 < g.cols → Few g line walked → Visits g (distinct_of (sorted (pushes_of mode g line walked)))
  unfolding pushes_of line_of
  pushes_visit walked s c k =
      let n = g.rows * g.cols in
      let v = along_on mode (x_axis g) line.start_x line.end_x in
      let h = along_on mode (y_axis g) line.start_y line.end_y in
      let beside = beside_of v h g.cols n in
      let a = flat_map beside walked in
      let e = endpoint_of mode g line.start_x line.start_y in
      let f = endpoint_of mode g line.end_x line.end_y in
      let m : length (walked ++ ((a ++ e) ++ f)) ≡ length walked + ((length a + length e) + length f) =
      length-append walked ((a ++ e) ++ f) ∙ ap (λ (k : ℕ). length walked + k) (length-append (a ++ e) f ∙ ap (λ (k : ℕ). k + length f) (length-append a e)) in
      let b = k.inside in
      let r = share_few mode g line walked k (length walked) (omega arith) in
      record {
        rising = one_of_each_rising (walked ++ ((a ++ e) ++ f));
        inside =
            below_one_of_each n (walked ++ ((a ++ e) ++ f))
            (below_append n walked ((a ++ e) ++ f) b
            (below_append n (a ++ e) f (below_append n a e (flat_below n beside (beside_below g.rows g.cols v h) walked b) (end_below s c line.start_x line.start_y)) (end_below s c line.end_x line.end_y)));
        few = omega (arith, m, r, flat_le beside (share v h) (beside_le v h g.cols n) walked, end_le mode g line.start_x line.start_y, end_le mode g line.end_x line.end_y, length_one_of_each (walked ++ ((a ++ e) ++ f)));
      }

  answer_visits : (o : Outcome) (xs : List ℕ) → Shape g.cols g.rows → 0 < g.cols → walked_of g.cols g.rows (ray_of g line) (start_of g line) ≡ o
      → answered mode g line o ≡ gives xs → Visits g xs
  unfolding answered ◌into◌
  answer_visits (refused why) xs s h e d = absurd (no_cells why xs d)
  answer_visits (gives walked) xs s h e d =
      subst (λ (z : List ℕ). Visits g z) (same_cells (distinct_of (sorted (pushes_of mode g line walked))) xs d) (pushes_visit walked s h (walked_few g line s walked e))

  unless_visits : (n : ℕ) (o : Outcome) (xs : List ℕ) → unless_none n o ≡ gives xs → (0 < n → o ≡ gives xs → Visits g xs) → Visits g xs
  unfolding unless_none
  unless_visits zero o xs e h = subst (λ (z : List ℕ). Visits g z) (same_cells [] xs e) (record { rising = tt; inside = tt; few = omega arith })
  unless_visits (suc n) o xs e h = h (omega arith) e

  -- by turns, on a grid whose counts have a shape
  pub turns_visit : turning mode ≡ true → (xs : List ℕ) → shape g.cols g.rows ≡ true → segment_of mode g line ≡ gives xs → Visits g xs
  unfolding turns_of by_turns
  turns_visit t xs s e =
      let w = walked_of g.cols g.rows (ray_of g line) (start_of g line) in
      let k = shape_says g.cols g.rows s in
      unless_visits g.cols (answered mode g line w) xs (sym (segment_turns mode g line t) ∙ e) (λ h d. answer_visits w xs k h refl d)

  -- the cells are those that were pushed: the walked ones and the added ones
  pub segment_members : turning mode ≡ true → (walked xs : List ℕ) → (g.cols ≡ 0 → ⊥) → walked_of g.cols g.rows (ray_of g line) (start_of g line) ≡ gives walked
      → segment_of mode g line ≡ gives xs → (v : ℕ) → elem v xs ≡ elem v (pushes_of mode g line walked)
  unfolding answered ◌into◌
  segment_members t walked xs h e d v =
      let is : segment_of mode g line ≡ gives (distinct_of (sorted (pushes_of mode g line walked))) =
      segment_is mode g line t h ∙ ap (answered mode g line) e in
      ap (elem v) (same_cells xs (distinct_of (sorted (pushes_of mode g line walked))) (sym d ∙ is)) ∙ elem_one_of_each v (pushes_of mode g line walked)

-- ---- in any mode, on a fit grid

pub record Cells (mode : Mode) (g : Grid) (line : Segment) (xs : List ℕ) : Type 0 where
  pub rising : Rising 0 xs
  pub inside : Below (g.rows * g.cols) xs
  -- they fit the scratch, or they are all, and more than 2,048
  pub few : everywhere_in mode g line ≡ false → length xs ≤ 16384
  pub all : everywhere_in mode g line ≡ true → (length xs ≡ g.rows * g.cols) × (2048 < g.rows * g.cols)

module _ (mode : Mode) (g : Grid) (line : Segment) (fits : fit g ≡ true) where
  by_turns_lem : turning mode ≡ true → (xs : List ℕ) → segment_of mode g line ≡ gives xs → Cells mode g line xs
  by_turns_lem t xs e =
      let v = turns_visit mode g line t xs (fit_shape g fits) e in
      record { rising = v.rising; inside = v.inside; few = λ _. omega (arith, v.few); all = λ h. absurd (true≢false (sym t ∙ everywhere_covers mode g line h)) }

  by_covering : turning mode ≡ false → Cells mode g line (covering_of g line)
  by_covering t =
      let v = covering_rises g fits line in
      let e = covering_everywhere mode g line t in
      record {
        rising = v.0;
        inside = v.1;
        few = λ h. omega (arith, found_few g fits line (sym e ∙ h));
        all = λ h. everywhere_all g line (sym e ∙ h);
      }

  pub segment_visits : (xs : List ℕ) → segment_of mode g line ≡ gives xs → Cells mode g line xs
  segment_visits xs e = go (turning mode) refl
    where
      go : (b : Bool) → turning mode ≡ b → Cells mode g line xs
      go true t = by_turns_lem t xs e
      go false t = subst (λ (z : List ℕ). Cells mode g line z) (same_cells (covering_of g line) xs (sym (segment_covers mode g line t) ∙ e)) (by_covering t)

-- ---- the one refusal

module _ (mode : Mode) (g : Grid) (line : Segment) (why : Refusal) where
  answer_refused : (o : Outcome) → answered mode g line o ≡ refused why → o ≡ refused why
  unfolding answered ◌into◌
  answer_refused (refused y) d = d
  answer_refused (gives ys) d = absurd (no_cells why (distinct_of (sorted (pushes_of mode g line ys))) (sym d))

  unless_refused : (n : ℕ) (o : Outcome) → unless_none n o ≡ refused why → o ≡ refused why
  unfolding unless_none
  unless_refused zero o d = absurd (no_cells why [] (sym d))
  unless_refused (suc n) o d = d

  turns_refused_by : turns_of mode g line ≡ refused why → why ≡ refusal 7 0
  unfolding turns_of by_turns
  turns_refused_by e =
      let o = walked_of g.cols g.rows (ray_of g line) (start_of g line) in
      walked_refused g.cols g.rows (ray_of g line) (start_of g line) why
      (answer_refused o (unless_refused g.cols (answered mode g line o) e))

  pub segment_refused : segment_of mode g line ≡ refused why → why ≡ refusal 7 0
  segment_refused e = go (turning mode) refl
    where
      go : (b : Bool) → turning mode ≡ b → why ≡ refusal 7 0
      go true t = turns_refused_by (sym (segment_turns mode g line t) ∙ e)
      go false t = apart e (segment_covers mode g line t)
