-- A walk by turns that ends has the cells of both ends of its line: the start cell is pushed first, and the end cell last. Assumes nothing.
use mathlib.Core.Path.{◌≡◌, refl, sym, ◌∙◌, subst}
use mathlib.Core.Bool.{true, ◌&&◌}
use mathlib.Core.List.{List, [], ◌++◌}
use Prim.Native.Nat.{ℕ, ◌+◌, ◌*◌, ◌<◌}
use native.Mathlib.Omega.{arith}
use borrow.Author.Tests.{lt-ltb}
use lib.Dec.{ltb}
use lib.Ieee.{Float}
use Rattle.slices.specs.Lists.{elem}
use Rattle.slices.proofs.Members.{elem_head, elem_left, elem_right}
use Rattle.refusals.specs.Refusals.{refused, gives, ◌into◌}
use Rattle.grid.specs.declared.Grid.{Grid}
use Rattle.grid.specs.declared.Segment.{Segment}
use Rattle.grid.specs.Axes.{x_axis, y_axis, index_on}
use Rattle.walk.specs.declared.Mode.{Mode}
use Rattle.turns.specs.Turns.{ray_of, start_of, stride_on, progress_on}
use Rattle.turns.specs.Pushes.{Outcome, kept_if, push_of, before, followed_by, turns, walked_of}
use Rattle.walk.specs.Segment.{pushes_of, answered, turning, segment_of}
use Rattle.turns.proofs.Pushed.{no_cells, same_cells}
use Rattle.walk.proofs.Answer.{segment_is}
use Rattle.walk.proofs.Visits.{segment_members}
use Rattle.window.proofs.Corners.{index_below}

-- ---- what is pushed

-- a walk that ends is the first push, its turns and the last push
in_walked : (S E walked : List ℕ) (T : Outcome) → followed_by (before S T) E ≡ gives walked → (v : ℕ) → ((elem v S ≡ true → elem v walked ≡ true) × (elem v E ≡ true → elem v walked ≡ true))
unfolding before followed_by ◌into◌
in_walked S E walked (refused why) h v = absurd (no_cells why walked h)
in_walked S E walked (gives ys) h v =
    let e : (S ++ ys) ++ E ≡ walked = same_cells ((S ++ ys) ++ E) walked h in
    (λ k. subst (λ (xs : List ℕ). elem v xs ≡ true) e (elem_left v (S ++ ys) E (elem_left v S ys k)), λ k. subst (λ (xs : List ℕ). elem v xs ≡ true) e (elem_right v (S ++ ys) E k))

module _ (mode : Mode) (g : Grid) (line : Segment) (by_turns_lem : turning mode ≡ true) (C : 0 < g.cols) (R : 0 < g.rows) (xs : List ℕ) (is : segment_of mode g line ≡ gives xs) where
  abbrev cell_at : Float → Float → ℕ
  cell_at x y = index_on (y_axis g) y * g.cols + index_on (x_axis g) x

  columns : g.cols ≡ 0 → ⊥
  columns e = absurd (omega arith)

  pushed : (x y : Float) → elem (cell_at x y) (kept_if (ltb (index_on (x_axis g) x) g.cols && ltb (index_on (y_axis g) y) g.rows) (cell_at x y)) ≡ true
  unfolding kept_if
  pushed x y = rw (lt-ltb (index_on (x_axis g) x) g.cols (index_below (x_axis g) x C), lt-ltb (index_on (y_axis g) y) g.rows (index_below (y_axis g) y R)) (elem_head (cell_at x y) [])

  walked_ends : (walked : List ℕ) → walked_of g.cols g.rows (ray_of g line) (start_of g line) ≡ gives walked
      → (elem (cell_at line.start_x line.start_y) walked ≡ true) × (elem (cell_at line.end_x line.end_y) walked ≡ true)
  unfolding walked_of push_of start_of progress_on ray_of stride_on
  walked_ends walked e =
      let T = turns 5000 g.cols g.rows (ray_of g line) (start_of g line) in
      let S = push_of g.cols g.rows (start_of g line).x.index (start_of g line).y.index in
      let E = push_of g.cols g.rows (ray_of g line).x.end (ray_of g line).y.end in (
        (in_walked S E walked T e (cell_at line.start_x line.start_y)).0 (pushed line.start_x line.start_y),
        (in_walked S E walked T e (cell_at line.end_x line.end_y)).1 (pushed line.end_x line.end_y),
      )

  listed_walked : (o : Outcome) → walked_of g.cols g.rows (ray_of g line) (start_of g line) ≡ o → answered mode g line o ≡ gives xs
      → (elem (cell_at line.start_x line.start_y) xs ≡ true) × (elem (cell_at line.end_x line.end_y) xs ≡ true)
  unfolding answered ◌into◌ pushes_of
  listed_walked (refused why) e h = absurd (no_cells why xs h)
  listed_walked (gives walked) e h =
      let p = walked_ends walked e in
      let m = segment_members mode g line by_turns_lem walked xs columns e is in (
        m (cell_at line.start_x line.start_y) ∙ elem_left (cell_at line.start_x line.start_y) walked _ p.0,
        m (cell_at line.end_x line.end_y) ∙ elem_left (cell_at line.end_x line.end_y) walked _ p.1,
      )

  -- THE CELL OF EACH END IS LISTED
  pub ends_listed : (elem (cell_at line.start_x line.start_y) xs ≡ true) × (elem (cell_at line.end_x line.end_y) xs ≡ true)
  ends_listed = listed_walked (walked_of g.cols g.rows (ray_of g line) (start_of g line)) refl (sym (segment_is mode g line by_turns_lem columns) ∙ is)
