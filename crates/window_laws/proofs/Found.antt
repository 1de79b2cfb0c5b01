-- What a query finds: a line whose cells meet the block of the window and whose box overlaps it. And what stands in the output of a query that was not
-- refused. Assumes nothing.
use Rattle.std.specs.Prelude.{Ok, Result}
use Rattle.refusals.specs.declared.Refusal.{Refusal}
use mathlib.Core.Path.{◌≡◌, refl, sym, ap, ap₂, ◌∙◌}
use mathlib.Core.Bool.{Bool, true, false, ◌&&◌, ◌||◌}
use mathlib.Core.List.{List, [], ◌++◌}
use Prim.Native.Nat.{ℕ, zero, suc, ◌+◌, ◌-◌, ◌*◌, ◌/◌, ◌%◌, ◌≤◌, ◌<◌}
use native.Mathlib.Omega.{arith}
use borrow.Author.Tests.{eqb-true, eqb-false, lt-ltb}
use lib.Dec.{eqb}
use lib.ListN.{length, take, replicate}
use lib.Seq.{take-append_seam}
use Rattle.slices.specs.Lists.{elem}
use Rattle.slices.proofs.Members.{elem_head, elem_left, elem_right}
use Rattle.refusals.specs.Refusals.{Answer, refused, gives, answer_by, left_in, zero_beyond}
use Rattle.refusals.proofs.Answers.{then_passed}
use Rattle.grid.specs.declared.Grid.{Grid}
use Rattle.grid.specs.declared.Box.{Box}
use Rattle.grid.specs.Axes.{x_axis, y_axis, index_on}
use Rattle.grid.specs.Boxes.{box_of, overlaps}
use Rattle.grid.specs.Domain.{Lines, count, segment_at, lines_check, grid_check}
use Rattle.grid.proofs.Bools.{and_both, or_right}
use Rattle.grid.proofs.Shapes.{col_of, row_of_lem}
use Rattle.tables.specs.Tables.{Tables, cells, list_of, globals_of}
use Rattle.tables.specs.Lists.{long, only}
use Rattle.tables.specs.Fit.{tables_check}
use Rattle.tables.specs.Stands.{Stands}
use Rattle.tables.proofs.Standing as standing
use Rattle.window.specs.Window.{in_order, within, in_block, listed, may_enter, those, lines_in, window_check, output_room_check, window_end, window_answer, WindowIs}
use Rattle.window.proofs.Blocks.{some_has, within_has, row_fits}

-- ---- the cells of a line meet the block of a window

pub record Meets (g : Grid) (w : Box) (xs : List ℕ) : Type 0 where
  pub row : ℕ
  pub col : ℕ
  pub row_in : row < g.rows
  pub col_in : col < g.cols
  pub lists : elem (row * g.cols + col) xs ≡ true
  pub col_from : index_on (x_axis g) w.min_x ≤ col
  pub col_to : col ≤ index_on (x_axis g) w.max_x
  pub row_from : index_on (y_axis g) w.min_y ≤ row
  pub row_to : row ≤ index_on (y_axis g) w.max_y

-- a number that passes is among those
those_hold : (f : ℕ → Bool) (n i : ℕ) → i < n → f i ≡ true → elem i (those f n) ≡ true
unfolding those
those_hold f zero i l h = absurd (omega arith)
those_hold f (suc n) i l h = go (eqb i n) refl (λ k. those_hold f n i k h)
  where
    go : (b : Bool) → eqb i n ≡ b → (i < n → elem i (those f n) ≡ true) → elem i (those f n ++ only (f n) n) ≡ true
    go true e rest = let d : i ≡ n = eqb-true i n e in elem_right i (those f n) (only (f n) n) (rw (← d, h) (elem_head i []))
    go false e rest = let d = eqb-false i n e in elem_left i (those f n) (only (f n) n) (rest (omega arith))

module _ (g : Grid) (w : Box) (xs : List ℕ) (m : Meets g w xs) where
  abbrev cell : ℕ
  cell = m.row * g.cols + m.col

  cell_below : cell < g.rows * g.cols
  cell_below = omega (arith, row_fits g.rows g.cols m.row m.row_in, m.col_in)

  in_block_lem : in_block g w cell ≡ true
  unfolding in_block
  in_block_lem =
      and_both (within (index_on (x_axis g) w.min_x) (index_on (x_axis g) w.max_x) (cell % g.cols)) (within (index_on (y_axis g) w.min_y) (index_on (y_axis g) w.max_y) (cell / g.cols))
      (ap (within (index_on (x_axis g) w.min_x) (index_on (x_axis g) w.max_x)) (col_of g.cols m.row m.col m.col_in) ∙ within_has (index_on (x_axis g) w.min_x) (index_on (x_axis g) w.max_x) m.col m.col_from m.col_to)
      (ap (within (index_on (y_axis g) w.min_y) (index_on (y_axis g) w.max_y)) (row_of_lem g.cols m.row m.col m.col_in) ∙ within_has (index_on (y_axis g) w.min_y) (index_on (y_axis g) w.max_y) m.row m.row_from m.row_to)

-- ---- on standing tables

module _ (W : ℕ → List ℕ) (ls : Lines) (g : Grid) (t : Tables) (s : Stands W (count ls) g t) (w : Box) (i : ℕ) (l : i < count ls) where
  cells_are : cells t ≡ g.rows * g.cols
  cells_are = ap (λ (x : Tables). cells x) s.on_grid

  globally : long (W i) ≡ true → elem i (globals_of t) ≡ true
  globally h = standing.global s i ∙ rw (lt-ltb i (count ls) l, h)

  locally : long (W i) ≡ false → Meets g w (W i) → listed g t w i ≡ true
  unfolding listed
  locally h m =
      let c = m.row * g.cols + m.col in
      let below : c < cells t = rw cells_are (cell_below g w (W i) m) in
      some_has (λ c. in_block g w c && elem i (list_of t c)) (cells t) c below
      (and_both (in_block g w c) (elem i (list_of t c)) (in_block_lem g w (W i) m) (standing.listed s c below i ∙ rw (lt-ltb i (count ls) l, h, m.lists)))

  either : Meets g w (W i) → (elem i (globals_of t) || listed g t w i) ≡ true
  either m = go (long (W i)) refl
    where
      go : (b : Bool) → long (W i) ≡ b → (elem i (globals_of t) || listed g t w i) ≡ true
      go true e = rw (globally e)
      go false e = or_right (elem i (globals_of t)) (listed g t w i) (locally e m)

  pub found : in_order w ≡ true → overlaps (box_of (segment_at ls i)) w ≡ true → Meets g w (W i) → elem i (lines_in ls g t w) ≡ true
  unfolding lines_in may_enter
  found order over m = those_hold (may_enter ls g t w) (count ls) i l (rw (order, over) (either m))

-- ---- a query that was not refused

pub record Answered (ls : Lines) (g : Grid) (t : Tables) (w : Box) (k : ℕ) (now : List ℕ) : Type 0 where
  pub window : window_check w ≡ Ok tt
  pub is : take k now ≡ lines_in ls g t w

end_says : (ls : Lines) (g : Grid) (t : Tables) (w : Box) (room : ℕ) (xs : List ℕ) → window_end ls g t w room ≡ gives xs → (window_check w ≡ (Ok tt)) × (lines_in ls g t w ≡ xs)
unfolding window_end
end_says ls g t w room xs h =
    let a = then_passed (lines_check ls) _ h in
    let b = then_passed (window_check w) _ a.1 in
    let c = then_passed (grid_check g) _ b.1 in
    let d = then_passed (tables_check t) _ c.1 in
    let e = then_passed (output_room_check (lines_in ls g t w) room) _ d.1 in
    let f : gives (lines_in ls g t w) ≡ gives xs = e.1 in
    (b.0, cc)

module _ (ls : Lines) (g : Grid) (t : Tables) (w : Box) (was now : List ℕ) (k : ℕ) where
  by_end : (e : Answer (List ℕ)) → window_end ls g t w (length was) ≡ e → window_answer e ≡ Ok k → now ≡ left_in 0 was e (λ xs. zero_beyond 0 (length was) xs) → Answered ls g t w k now
  unfolding window_answer answer_by left_in zero_beyond
  by_end (refused r) d a n = let z : ◌≡◌ {A = ℕ} 0 1 = cc in absurd (omega arith)
  by_end (gives xs) d a n =
      let s = end_says ls g t w (length was) xs d in
      let z : length xs ≡ k = cc in
      record { window = s.0; is = ap₂ (λ (j : ℕ) (ys : List ℕ). take j ys) (sym z) n ∙ take-append_seam xs (replicate (length was - length xs) 0) ∙ sym s.1 }

  pub answered : {r : (Result ℕ Refusal)} → WindowIs ls g t w was r now → r ≡ Ok k → Answered ls g t w k now
  answered h e = by_end (window_end ls g t w (length was)) refl (sym h.answer ∙ e) h.left
