-- WHICH LINES A QUERY LISTS FOR SURE, after a build that succeeded, straight from what `build::build` and `window::lines_in` ensure, where the query was not
-- refused. In the covering mode every line that has an exact point inside the window; in every mode every line that has an end in it. Assumes nothing.
use Rattle.std.specs.Prelude.{Ok, Result}
use Rattle.refusals.specs.declared.Refusal.{Refusal}
use mathlib.Core.Path.{◌≡◌, refl, sym, ap, ◌∙◌, subst}
use mathlib.Core.Logic.{inl, inr}
use mathlib.Core.Bool.{Bool, true, false, ◌&&◌}
use mathlib.Core.List.{List}
use Prim.Native.Nat.{ℕ, ◌+◌, ◌-◌, ◌*◌, ◌≤◌, ◌<◌}
use native.Mathlib.Nat.{le_of_eq}
use native.Mathlib.Omega.{arith}
use lib.Dec.{T, lit<}
use lib.ListN.{length, take}
use lib.Ieee.{Float, le}
use lib.Ieee.Bits.{is_true}
use lib.Ieee.Scale.{finite}
use Rattle.tables.specs.Tables.{beside}
use Rattle.numbers.specs.Order.{least_of, greatest_of}
use Rattle.numbers.proofs.Extremes.{least_one, greatest_one, least_under, greatest_over}
use Rattle.numbers.proofs.Tests.{holds}
use Rattle.numbers.proofs.FloatOrder.{finite_number}
use Rattle.slices.specs.Lists.{elem}
use Rattle.refusals.specs.Refusals.{gives}
use Rattle.refusals.proofs.Checks.{unless_fine}
use Rattle.grid.specs.declared.Grid.{Grid}
use Rattle.grid.specs.declared.Box.{Box}
use Rattle.grid.specs.declared.Segment.{Segment}
use Rattle.grid.specs.Axes.{x_axis, y_axis, index_on}
use Rattle.grid.specs.Boxes.{box_of, overlaps}
use Rattle.grid.specs.Domain.{Lines, count, segment_at, coordinate, point, segment, line_fits, fit}
use Rattle.grid.proofs.Bools.{and_left, and_right, or_says}
use Rattle.grid.proofs.Fine.{lines_fine}
use Rattle.grid.proofs.Floats.{coordinate_finite}
use Rattle.grid.proofs.Shapes.{fit_says}
use Rattle.cover.specs.Covering.{passes, covering_of}
use Rattle.cover.proofs.Boxes.{exact_finite}
use Rattle.cover.proofs.Cells.{in_all}
use Rattle.cover.proofs.Entry.{covering_all}
use Rattle.walk.specs.declared.Mode.TheVariants.{Covering}
use Rattle.walk.specs.Segment.{turning, segment_of}
use Rattle.turns.proofs.Pushed.{same_cells}
use Rattle.walk.proofs.Reaching.{segment_covers}
use Rattle.fill.specs.OnGrid.{walk_on, cells_on}
use Rattle.build.specs.declared.Plan.{Plan}
use Rattle.build.specs.declared.Standing.{Standing}
use Rattle.build.specs.Build.{end_of, BuildIs}
use Rattle.build.proofs.Theorems.{build_stands, walks_end, grid_fits, lines_passed}
use Rattle.straight.proofs.Coordinates.{index_mono}
use Rattle.window.specs.Window.{in_order, window_check, WindowIs}
use Rattle.window.proofs.Blocks.{row_fits}
use Rattle.window.proofs.Corners.{index_below}
use Rattle.window_laws.specs.Entering as entering
use Rattle.window_laws.specs.Entering.{Enters, has_end, EnteringFound, EndingFound}
use Rattle.window_laws.proofs.Sides.{Before, After, in_turn, before_both, after_both, before_start, after_start, before_end, after_end, before_whole, after_whole}
use Rattle.window_laws.proofs.Spots.{good_x, good_y, spot}
use Rattle.window_laws.proofs.Sizes.{Held, build_held}
use Rattle.window_laws.proofs.Ends.{ends_listed}
use Rattle.window_laws.proofs.Found.{Meets, found, Answered, answered}

-- ---- a point of a line, with the weights v and u of its ends, in a window

record Known (l : Segment) : Type 0 where
  start_x : T (finite l.start_x)
  start_y : T (finite l.start_y)
  end_x : T (finite l.end_x)
  end_y : T (finite l.end_y)

record PointIn (l : Segment) (w : Box) : Type 0 where
  known : Known l
  v : ℕ
  u : ℕ
  some : 0 < v + u
  from_x : Before w.min_x v u l.start_x l.end_x
  to_x : After w.max_x v u l.start_x l.end_x
  from_y : Before w.min_y v u l.start_y l.end_y
  to_y : After w.max_y v u l.start_y l.end_y

-- the corners obey the coordinate rule
record Window (w : Box) : Type 0 where
  min_x : coordinate w.min_x ≡ true
  min_y : coordinate w.min_y ≡ true
  max_x : coordinate w.max_x ≡ true
  max_y : coordinate w.max_y ≡ true

window_says : (w : Box) → window_check w ≡ (Ok tt) → Window w
unfolding window_check point
window_says w h =
    let p = unless_fine (point w.min_x w.min_y && point w.max_x w.max_y) 1 0 h in
    let a = and_left (point w.min_x w.min_y) (point w.max_x w.max_y) p in
    let b = and_right (point w.min_x w.min_y) (point w.max_x w.max_y) p in
    record {
      min_x = and_left (coordinate w.min_x) (coordinate w.min_y) a;
      min_y = and_right (coordinate w.min_x) (coordinate w.min_y) a;
      max_x = and_left (coordinate w.max_x) (coordinate w.max_y) b;
      max_y = and_right (coordinate w.max_x) (coordinate w.max_y) b;
    }

-- ---- the window is in order, and the box of the line overlaps it

-- one axis
module _ (v u : ℕ) (Q : 0 < v + u) (x y low high : Float) (fx : T (finite x)) (fy : T (finite y)) (fl : T (finite low)) (fh : T (finite high)) (b : Before low v u x y) (a : After high v u x y) where
  in_order_lem : le low high ≡ true
  in_order_lem = is_true (le low high) (in_turn v u x y Q low high fl fh b a)

  below_most : le low (greatest_of x y) ≡ true
  below_most =
      let m = greatest_one (λ (z : Float). T (finite z)) x y fx fy in
      let o = greatest_over x y (finite_number x fx) (finite_number y fy) in
      is_true (le low (greatest_of x y)) (in_turn v u x y Q low (greatest_of x y) fl m b (after_both v u x y (greatest_of x y) fx fy m o.0 o.1))

  above_least : le (least_of x y) high ≡ true
  above_least =
      let m = least_one (λ (z : Float). T (finite z)) x y fx fy in
      let o = least_under x y (finite_number x fx) (finite_number y fy) in
      is_true (le (least_of x y) high) (in_turn v u x y Q (least_of x y) high m fh (before_both v u x y (least_of x y) fx fy m o.0 o.1) a)

module _ (l : Segment) (w : Box) (c : Window w) (p : PointIn l w) where
  abbrev min_x_fine : T (finite w.min_x)
  min_x_fine = coordinate_finite w.min_x c.min_x

  abbrev max_x_fine : T (finite w.max_x)
  max_x_fine = coordinate_finite w.max_x c.max_x

  abbrev min_y_fine : T (finite w.min_y)
  min_y_fine = coordinate_finite w.min_y c.min_y

  abbrev max_y_fine : T (finite w.max_y)
  max_y_fine = coordinate_finite w.max_y c.max_y

  ordered : in_order w ≡ true
  unfolding in_order
  ordered =
      rw (
        in_order_lem p.v p.u p.some l.start_x l.end_x w.min_x w.max_x p.known.start_x p.known.end_x min_x_fine max_x_fine p.from_x p.to_x,
        in_order_lem p.v p.u p.some l.start_y l.end_y w.min_y w.max_y p.known.start_y p.known.end_y min_y_fine max_y_fine p.from_y p.to_y,
      )

  overlapping : overlaps (box_of l) w ≡ true
  unfolding overlaps box_of
  overlapping =
      rw (
        below_most p.v p.u p.some l.start_x l.end_x w.min_x w.max_x p.known.start_x p.known.end_x min_x_fine max_x_fine p.from_x p.to_x,
        above_least p.v p.u p.some l.start_x l.end_x w.min_x w.max_x p.known.start_x p.known.end_x min_x_fine max_x_fine p.from_x p.to_x,
        below_most p.v p.u p.some l.start_y l.end_y w.min_y w.max_y p.known.start_y p.known.end_y min_y_fine max_y_fine p.from_y p.to_y,
        above_least p.v p.u p.some l.start_y l.end_y w.min_y w.max_y p.known.start_y p.known.end_y min_y_fine max_y_fine p.from_y p.to_y,
      )

  -- ---- its cells meet the block

  module _ (g : Grid) (ok : fit g ≡ true) (C : 0 < g.cols) where
    R : 0 < g.rows
    R = (fit_says g ok).counts.alike C

    order_x : index_on (x_axis g) w.min_x ≤ index_on (x_axis g) w.max_x
    order_x = index_mono (x_axis g) (good_x g ok) w.min_x w.max_x c.min_x c.max_x (in_turn p.v p.u l.start_x l.end_x p.some w.min_x w.max_x min_x_fine max_x_fine p.from_x p.to_x)

    order_y : index_on (y_axis g) w.min_y ≤ index_on (y_axis g) w.max_y
    order_y = index_mono (y_axis g) (good_y g ok) w.min_y w.max_y c.min_y c.max_y (in_turn p.v p.u l.start_y l.end_y p.some w.min_y w.max_y min_y_fine max_y_fine p.from_y p.to_y)

    -- a line that passes the guard: the cell of the point
    by_spot : Held g → passes g l ≡ true → Meets g w (covering_of g l)
    by_spot held h =
        let s = spot g ok C l h p.v p.u p.some held.wide held.high in
        record {
          row = s.row;
          col = s.col;
          row_in = s.row_in;
          col_in = s.col_in;
          lists = s.lists;
          col_from = s.col_from w.min_x c.min_x p.from_x;
          col_to = s.col_to w.max_x c.max_x p.to_x;
          row_from = s.row_from w.min_y c.min_y p.from_y;
          row_to = s.row_to w.max_y c.max_y p.to_y;
        }

    -- every other is in all cells, that of the lower corner among them
    by_corner : passes g l ≡ false → Meets g w (covering_of g l)
    by_corner h =
        let r = index_below (y_axis g) w.min_y R in
        let k = index_below (x_axis g) w.min_x C in
        record {
          row = index_on (y_axis g) w.min_y;
          col = index_on (x_axis g) w.min_x;
          row_in = r;
          col_in = k;
          lists = rw (covering_all g l C h) (in_all (g.rows * g.cols) (index_on (y_axis g) w.min_y * g.cols + index_on (x_axis g) w.min_x) (omega (arith, row_fits g.rows g.cols (index_on (y_axis g) w.min_y) r, k)));
          col_from = le_of_eq refl;
          col_to = order_x;
          row_from = le_of_eq refl;
          row_to = order_y;
        }

    covering_meets : Held g → Meets g w (covering_of g l)
    covering_meets held = go (passes g l) refl
      where
        go : (b : Bool) → passes g l ≡ b → Meets g w (covering_of g l)
        go true h = by_spot held h
        go false h = by_corner h

-- ---- a point from what is said of the line

enters_in : (l : Segment) (w : Box) → Enters l w → PointIn l w
enters_in l w e =
    let s = e.s in
    let t = e.t in
    let i = e.s_is in
    let j = e.t_is in
    record {
      known =
          record {
            start_x = exact_finite l.start_x s.start_x e.n i.«start_x»;
            start_y = exact_finite l.start_y s.start_y e.n i.«start_y»;
            end_x = exact_finite l.end_x s.end_x e.n i.«end_x»;
            end_y = exact_finite l.end_y s.end_y e.n i.«end_y»;
          };
      v = e.q - e.a;
      u = e.a;
      some = weights e.q e.a e.some e.a_to;
      from_x = before_whole e.n e.q e.a e.above e.a_to l.start_x l.end_x w.min_x s.start_x s.end_x t.start_x i.«start_x» i.«end_x» j.«start_x» e.on_x_lem.from;
      to_x = after_whole e.n e.q e.a e.above e.a_to l.start_x l.end_x w.max_x s.start_x s.end_x t.end_x i.«start_x» i.«end_x» j.«end_x» e.on_x_lem.to;
      from_y = before_whole e.n e.q e.a e.above e.a_to l.start_y l.end_y w.min_y s.start_y s.end_y t.start_y i.«start_y» i.«end_y» j.«start_y» e.on_y_lem.from;
      to_y = after_whole e.n e.q e.a e.above e.a_to l.start_y l.end_y w.max_y s.start_y s.end_y t.end_y i.«start_y» i.«end_y» j.«end_y» e.on_y_lem.to;
    }
  where
    weights : (q a : ℕ) → 0 < q → a ≤ q → 0 < q - a + a
    weights q a Q h = omega arith

-- the four comparisons
record In (w : Box) (x y : Float) : Type 0 where
  from_x : T (le w.min_x x)
  to_x : T (le x w.max_x)
  from_y : T (le w.min_y y)
  to_y : T (le y w.max_y)

holds_says : (w : Box) (x y : Float) → entering.box_holds w x y ≡ true → In w x y
holds_says w x y h =
    let a = and_left (le w.min_x x && le x w.max_x) (le w.min_y y && le y w.max_y) h in
    let b = and_right (le w.min_x x && le x w.max_x) (le w.min_y y && le y w.max_y) h in
    record {
      from_x = holds (le w.min_x x) (and_left (le w.min_x x) (le x w.max_x) a);
      to_x = holds (le x w.max_x) (and_right (le w.min_x x) (le x w.max_x) a);
      from_y = holds (le w.min_y y) (and_left (le w.min_y y) (le y w.max_y) b);
      to_y = holds (le y w.max_y) (and_right (le w.min_y y) (le y w.max_y) b);
    }

module _ (l : Segment) (w : Box) (c : Window w) (k : Known l) where
  start_in : In w l.start_x l.start_y → PointIn l w
  start_in i =
      record {
        known = k;
        v = 1;
        u = 0;
        some = lit< tt;
        from_x = before_start l.start_x l.end_x w.min_x (coordinate_finite w.min_x c.min_x) k.start_x i.from_x;
        to_x = after_start l.start_x l.end_x w.max_x (coordinate_finite w.max_x c.max_x) k.start_x i.to_x;
        from_y = before_start l.start_y l.end_y w.min_y (coordinate_finite w.min_y c.min_y) k.start_y i.from_y;
        to_y = after_start l.start_y l.end_y w.max_y (coordinate_finite w.max_y c.max_y) k.start_y i.to_y;
      }

  end_in : In w l.end_x l.end_y → PointIn l w
  end_in i =
      record {
        known = k;
        v = 0;
        u = 1;
        some = lit< tt;
        from_x = before_end l.start_x l.end_x w.min_x (coordinate_finite w.min_x c.min_x) k.end_x i.from_x;
        to_x = after_end l.start_x l.end_x w.max_x (coordinate_finite w.max_x c.max_x) k.end_x i.to_x;
        from_y = before_end l.start_y l.end_y w.min_y (coordinate_finite w.min_y c.min_y) k.end_y i.from_y;
        to_y = after_end l.start_y l.end_y w.max_y (coordinate_finite w.max_y c.max_y) k.end_y i.to_y;
      }

-- the cell of an end that is in the window is in the block
module _ (g : Grid) (ok : fit g ≡ true) (C : 0 < g.cols) (w : Box) (c : Window w) (xs : List ℕ) (x y : Float) (kx : coordinate x ≡ true) (ky : coordinate y ≡ true) (i : In w x y) where
  end_meets : elem (index_on (y_axis g) y * g.cols + index_on (x_axis g) x) xs ≡ true → Meets g w xs
  end_meets h =
      let f = fit_says g ok in
      record {
        row = index_on (y_axis g) y;
        col = index_on (x_axis g) x;
        row_in = index_below (y_axis g) y (f.counts.alike C);
        col_in = index_below (x_axis g) x C;
        lists = h;
        col_from = index_mono (x_axis g) (good_x g ok) w.min_x x c.min_x kx i.from_x;
        col_to = index_mono (x_axis g) (good_x g ok) x w.max_x kx c.max_x i.to_x;
        row_from = index_mono (y_axis g) (good_y g ok) w.min_y y c.min_y ky i.from_y;
        row_to = index_mono (y_axis g) (good_y g ok) y w.max_y ky c.max_y i.to_y;
      }

-- ---- THE THEOREMS

module _ (plan : Plan) {ls : Lines} {o t gs s : List ℕ} {r : (Result Standing Refusal)} {o' t' gs' s' : List ℕ} {st : Standing}
    (h : BuildIs plan.mode ls o t gs s r o' t' gs' s' (end_of plan ls (length o) (length t) (length gs) (length s))) (ok : r ≡ Ok st)
    (w : Box) {was now : List ℕ} {l : (Result ℕ Refusal)} (q : WindowIs ls st.grid (beside ls st.grid o' t' gs' st.globals) w was l now) (n : ℕ) (listed : l ≡ Ok n) where
  abbrev g : Grid
  g = st.grid

  given : Answered ls g (beside ls g o' t' gs' st.globals) w n now
  given = answered ls g (beside ls g o' t' gs' st.globals) w was now n q listed

  corners_fit : Window w
  corners_fit = window_says w given.window

  module _ (i : ℕ) (b : i < count ls) where
    abbrev line : Segment
    line = segment_at ls i

    columns : 0 < g.cols
    columns = let m : 1 ≤ count ls = omega arith in let k = (grid_fits plan h ok).1 m in omega arith

    sizes : Held g
    sizes = build_held plan h ok (omega arith)

    cells_given : segment_of plan.mode g line ≡ gives (cells_on plan.mode g ls i)
    unfolding walk_on
    cells_given = walks_end plan h ok i b

    covers : turning plan.mode ≡ false → covering_of g line ≡ cells_on plan.mode g ls i
    covers e = same_cells (covering_of g line) (cells_on plan.mode g ls i) (sym (segment_covers plan.mode g line e) ∙ cells_given)

    -- a point in the window whose cell is in the block is enough
    by_meeting : PointIn line w → Meets g w (cells_on plan.mode g ls i) → elem i (take n now) ≡ true
    by_meeting p m =
        ap (elem i) given.is
        ∙ found (cells_on plan.mode g ls) ls g (beside ls g o' t' gs' st.globals) (build_stands plan h ok) w i b (ordered line w corners_fit p) (overlapping line w corners_fit p) m

    by_covering : turning plan.mode ≡ false → PointIn line w → elem i (take n now) ≡ true
    by_covering e p = by_meeting p (subst (λ (xs : List ℕ). Meets g w xs) (covers e) (covering_meets line w corners_fit p g (grid_fits plan h ok).0 columns sizes))

    -- ---- an end

    line_known : (coordinate line.start_x ≡ true) × (coordinate line.start_y ≡ true) × (coordinate line.end_x ≡ true) × (coordinate line.end_y ≡ true)
    unfolding line_fits segment point
    line_known =
        let e = (lines_fine ls (lines_passed plan h ok)).each i b in
        let x = and_left (point line.start_x line.start_y) (point line.end_x line.end_y) e in
        let y = and_right (point line.start_x line.start_y) (point line.end_x line.end_y) e in (
          and_left (coordinate line.start_x) (coordinate line.start_y) x,
          and_right (coordinate line.start_x) (coordinate line.start_y) x,
          and_left (coordinate line.end_x) (coordinate line.end_y) y,
          and_right (coordinate line.end_x) (coordinate line.end_y) y,
        )

    known : Known line
    known =
        let k = line_known in
        record { start_x = coordinate_finite line.start_x k.0; start_y = coordinate_finite line.start_y k.1; end_x = coordinate_finite line.end_x k.2; end_y = coordinate_finite line.end_y k.3 }

    by_turns_lem : turning plan.mode ≡ true → (elem (index_on (y_axis g) line.start_y * g.cols + index_on (x_axis g) line.start_x) (cells_on plan.mode g ls i) ≡ true) × (elem (index_on (y_axis g) line.end_y * g.cols + index_on (x_axis g) line.end_x) (cells_on plan.mode g ls i) ≡ true)
    by_turns_lem e = ends_listed plan.mode g line e columns ((fit_says g (grid_fits plan h ok).0).counts.alike columns) (cells_on plan.mode g ls i) cells_given

    by_start : In w line.start_x line.start_y → elem i (take n now) ≡ true
    by_start j = go (turning plan.mode) refl
      where
        go : (z : Bool) → turning plan.mode ≡ z → elem i (take n now) ≡ true
        go true e =
            by_meeting (start_in line w corners_fit known j)
            (end_meets g (grid_fits plan h ok).0 columns w corners_fit (cells_on plan.mode g ls i) line.start_x line.start_y line_known.0 line_known.1 j (by_turns_lem e).0)
        go false e = by_covering e (start_in line w corners_fit known j)

    by_end : In w line.end_x line.end_y → elem i (take n now) ≡ true
    by_end j = go (turning plan.mode) refl
      where
        go : (z : Bool) → turning plan.mode ≡ z → elem i (take n now) ≡ true
        go true e =
            by_meeting (end_in line w corners_fit known j)
            (end_meets g (grid_fits plan h ok).0 columns w corners_fit (cells_on plan.mode g ls i) line.end_x line.end_y line_known.2 line_known.3 j (by_turns_lem e).1)
        go false e = by_covering e (end_in line w corners_fit known j)

    one_end : has_end line w ≡ true → elem i (take n now) ≡ true
    unfolding has_end
    one_end e = elim (or_says (entering.box_holds w line.start_x line.start_y) (entering.box_holds w line.end_x line.end_y) e) [
      | inl a ↦ by_start (holds_says w line.start_x line.start_y a)
      | inr a ↦ by_end (holds_says w line.end_x line.end_y a)
    ]

  -- IN EVERY MODE a line that has an end in the window is listed
  pub ends_found : EndingFound ls w (take n now)
  ends_found = one_end

  -- IN THE COVERING MODE every line that has an exact point inside the window is
  pub entering_found : plan.mode ≡ Covering → EnteringFound ls w (take n now)
  unfolding turning
  entering_found covering i b e = by_covering i b (ap turning covering) (enters_in (segment_at ls i) w e)
