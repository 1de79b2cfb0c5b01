-- The cell in which the covering rule lists an exact point of a line lies, on each axis, from the index of every value before the point to that of every value
-- after it. Assumes nothing.
use mathlib.Core.Path.{◌≡◌, refl, sym, ap, ◌∙◌, subst}
use mathlib.Core.Logic.{inl, inr}
use mathlib.Core.Bool.{Bool, true, false}
use Prim.Native.Nat.{ℕ, ◌+◌, ◌-◌, ◌*◌, ◌≤◌, ◌<◌, min}
use native.Mathlib.Nat.{le_trans, mul-pos}
use native.Mathlib.Omega.{arith}
use lib.IntN.{pos}
use lib.Dec.{T, lit≤, lit<}
use lib.Ieee.{Float, fin, binary64, round, sub, div, le, lt, fits}
use lib.Ieee.Order.{round_mono}
use lib.Ieee.Scale.{finite}
use lib.Ieee.Positive.{num, den, den_pos}
use Rattle.numbers.specs.Floor.{clamped_floor}
use Rattle.numbers.proofs.FloatOrder.{plus, minus, le→cross, at_most, lt_le, le_self, finite_number}
use Rattle.numbers.proofs.FloatQuotient.{div_mono}
use Rattle.numbers.proofs.FloorLaws.{clamped_mono}
use Rattle.slices.specs.Lists.{elem}
use Rattle.grid.specs.declared.Axis.{Axis}
use Rattle.grid.specs.declared.Grid.{Grid}
use Rattle.grid.specs.declared.Segment.{Segment}
use Rattle.grid.specs.Axes.{x_axis, y_axis, scaled_on, index_on}
use Rattle.grid.specs.Domain.{coordinate, fit}
use Rattle.grid.proofs.Floats.{coordinate_finite, size_positive}
use Rattle.grid.proofs.Shapes.{fit_says}
use Rattle.straight.proofs.Coordinates.{Fits, size_apart, distance_bounded, index_mono}
use Rattle.cover.specs.declared.Ends.{Ends}
use Rattle.cover.specs.Fine.{unit_on}
use Rattle.cover.specs.Covering.{passes, fine_ends, covering_of}
use Rattle.cover.proofs.Covers.{Listed}
use Rattle.cover.proofs.Cells.{listed}
use Rattle.cover.proofs.Offsets.{Apart, Off, gap, none, sub_is, apart_of, off_le, mean_off, mean_p, mean_n, mean_d}
use Rattle.cover.proofs.ExactPoints.{cell_at, point_within}
use Rattle.cover.proofs.Passing.{Scaled, unit_scaled}
use Rattle.cover.proofs.Meeting.{Measure, Inside, first_off, second_off, over, over_pos, first_apart, second_apart, first_within, second_within, row_at, col_at, line_covered}
use Rattle.cover.proofs.Laws.{unit_sized, measured, on_x, on_y, ends_same, ready}
use Rattle.cover.proofs.Entry.{covering_by_rule}
use Rattle.window_laws.proofs.Indexes.{index_of_fine}
use Rattle.window_laws.proofs.Sides.{Before, After, point_pos, in_turn, before_both}

-- ---- one axis of a fit grid, whose cell size is a value of the format

module _ (a : Axis) (good : Fits a) (held : T (fits binary64 a.size)) where
  abbrev M : Measure binary64
  M = measured a good.low good.size

  scaled : Scaled a.size (unit_on a)
  unfolding unit_on
  scaled = unit_scaled a.size (size_positive a.size good.size) held (wide (den a.size) (num a.size) (size_apart a.size good.size).least)
    where
      wide : (d n : ℕ) → d ≤ 4194304 * n → 1 * d ≤ n * 1099511627776
      wide d n h = omega arith

  -- the index of a distance
  abbrev index_at : ℕ → ℕ → ℕ
  index_at p q = clamped_floor (div binary64 (round binary64 false p q) a.size) a.count

  later : (x y : Float) → T (finite x) → T (finite y) → T (le x y) → clamped_floor (div binary64 x a.size) a.count ≤ clamped_floor (div binary64 y a.size) a.count
  later x y p q h = clamped_mono (div binary64 x a.size) (div binary64 y a.size) a.count (div_mono binary64 x y a.size p q (size_positive a.size good.size) h)

  -- a coordinate m that is not below the low side
  module _ (m : Float) (k : coordinate m ≡ true) (h : T (le a.low m)) where
    m_fine : T (finite m)
    m_fine = coordinate_finite m k

    abbrev U : ℕ
    U = gap m a.low * 1

    abbrev c : ℕ
    c = den m * den a.low * 1

    c+ : 0 < c
    c+ = mul-pos (mul-pos (den_pos m) (den_pos a.low)) (lit< tt)

    apart : Apart m a.low U c
    apart = apart_of m a.low 1 m_fine M.known (le→cross a.low m M.known m_fine h)

    off : Off a.low (plus m) (minus m) (den m) U c
    off = record { is = apart.is }

    abbrev X : Float
    X = sub binary64 m a.low

    X_fine : T (finite X)
    X_fine = (distance_bounded a good m k).fine

    -- what is computed of its distance, and the distance rounded: one value, or two zeros
    record Alike (x y : Float) : Type 0 where
      fine : T (finite y)
      up : T (le x y)
      down : T (le y x)

    alike : Alike X (round binary64 false U c)
    alike = elim (sub_is binary64 m a.low U c c+ apart) [
      | inl e ↦ subst (λ (z : Float). Alike X z) e (let t = le_self X (finite_number X X_fine) in record { fine = X_fine; up = t; down = t })
      | inr z ↦
          subst (λ (x : Float). Alike x (round binary64 false U c)) (sym z.0)
          (subst (λ (y : Float). Alike (fin true 0 (pos 0)) y) (sym (ap (λ (u : ℕ). round binary64 false u c) z.1 ∙ none binary64 c c+)) (unfold le in record { fine = tt; up = tt; down = tt }))
    ]

    index_is : (index_on a m ≤ index_at U c) × (index_at U c ≤ index_on a m)
    unfolding index_on scaled_on
    index_is = let s = alike in (later X (round binary64 false U c) X_fine s.fine s.up, later (round binary64 false U c) X s.fine X_fine s.down)

  -- ---- the point with the weights v and w of two ends

  module _ (x y : Float) (p : Inside binary64 M x) (q : Inside binary64 M y) (v w : ℕ) (Q : 0 < v + w) where
    abbrev P : ℕ
    P = v * first_off binary64 M x y p q + w * second_off binary64 M x y p q

    abbrev D : ℕ
    D = (v + w) * over binary64 M x y p q

    D+ : 0 < D
    D+ = mul-pos Q (over_pos binary64 M x y p q)

    point_off : Off a.low (mean_p v w x y) (mean_n v w x y) (mean_d v w x y) P D
    point_off =
        mean_off a.low x y v w (first_off binary64 M x y p q) (second_off binary64 M x y p q) (over binary64 M x y p q) (first_apart binary64 M x y p q) (second_apart binary64 M x y p q)

    inside : T (finite (round binary64 false P D)) × (P * den (unit_on a) ≤ 4294967296 * (num (unit_on a) * D))
    inside =
        point_within binary64 (unit_on a) (unit_sized a good.low good.size) (over binary64 M x y p q) (over_pos binary64 M x y p q) v w Q (first_off binary64 M x y p q) (second_off binary64 M x y p q)
        (first_within binary64 M x y p q) (second_within binary64 M x y p q)

    cell_is : cell_at binary64 (unit_on a) a.count P D ≡ index_at P D
    cell_is = index_of_fine binary64 a.size (unit_on a) (unit_sized a good.low good.size) scaled (lit≤ tt) P D D+ inside.0 inside.1 a.count

    module _ (m : Float) (k : coordinate m ≡ true) (h : T (le a.low m)) where
      from_above : Before m v w x y → index_on a m ≤ index_at P D
      from_above b =
          let n = off_le a.low (plus m) (minus m) (den m) (U m k h) (c m k h) (mean_p v w x y) (mean_n v w x y) (mean_d v w x y) P D (den_pos m) (point_pos v w x y Q) (off m k h) point_off b.is in
          let r = round_mono binary64 (U m k h) (c m k h) P D (c+ m k h) D+ n in
          le_trans (index_is m k h).0 (later (round binary64 false (U m k h) (c m k h)) (round binary64 false P D) (alike m k h).fine inside.0 r)

      to_above : After m v w x y → index_at P D ≤ index_on a m
      to_above b =
          let n = off_le a.low (mean_p v w x y) (mean_n v w x y) (mean_d v w x y) P D (plus m) (minus m) (den m) (U m k h) (c m k h) (point_pos v w x y Q) (den_pos m) point_off (off m k h) b.is in
          let r = round_mono binary64 P D (U m k h) (c m k h) D+ (c+ m k h) n in
          le_trans (later (round binary64 false P D) (round binary64 false (U m k h) (c m k h)) inside.0 (alike m k h).fine r) (index_is m k h).1

    low_before : Before a.low v w x y
    low_before = before_both v w x y a.low p.known q.known M.known p.above q.above

    -- THE CELL LIES BETWEEN
    pub cell_from : (m : Float) → coordinate m ≡ true → Before m v w x y → index_on a m ≤ cell_at binary64 (unit_on a) a.count P D
    cell_from m k b = rw cell_is (go (lt a.low m) refl)
      where
        go : (t : Bool) → lt a.low m ≡ t → index_on a m ≤ index_at P D
        go true e = from_above m k (lt_le a.low m e) b
        go false e =
            let u = at_most m a.low (finite_number m (coordinate_finite m k)) (finite_number a.low M.known) e in
            le_trans (index_mono a good m a.low k good.low u) (from_above a.low good.low (le_self a.low (finite_number a.low M.known)) low_before)

    pub cell_to : (m : Float) → coordinate m ≡ true → After m v w x y → cell_at binary64 (unit_on a) a.count P D ≤ index_on a m
    cell_to m k b = rw cell_is (to_above m k (in_turn v w x y Q a.low m M.known (coordinate_finite m k) low_before b) b)

-- ---- a line

-- a cell lists the line, and it lies between the indexes of what is before and after the point with the weights v and w
pub record Spot (g : Grid) (l : Segment) (v w : ℕ) : Type 0 where
  pub row : ℕ
  pub col : ℕ
  pub row_in : row < g.rows
  pub col_in : col < g.cols
  pub lists : elem (row * g.cols + col) (covering_of g l) ≡ true
  pub col_from : (m : Float) → coordinate m ≡ true → Before m v w l.start_x l.end_x → index_on (x_axis g) m ≤ col
  pub col_to : (m : Float) → coordinate m ≡ true → After m v w l.start_x l.end_x → col ≤ index_on (x_axis g) m
  pub row_from : (m : Float) → coordinate m ≡ true → Before m v w l.start_y l.end_y → index_on (y_axis g) m ≤ row
  pub row_to : (m : Float) → coordinate m ≡ true → After m v w l.start_y l.end_y → row ≤ index_on (y_axis g) m

-- both axes of a fit grid
abbrev pub good_x : (g : Grid) → fit g ≡ true → Fits (x_axis g)
good_x g ok = record { low = (fit_says g ok).«min_x»; size = (fit_says g ok).«cell-width» }

abbrev pub good_y : (g : Grid) → fit g ≡ true → Fits (y_axis g)
good_y g ok = record { low = (fit_says g ok).«min_y»; size = (fit_says g ok).«cell-height» }

least_below : (x n : ℕ) → 0 < n → min x (n - 1) < n
least_below x n h = omega arith

module _ (g : Grid) (ok : fit g ≡ true) (C : 0 < g.cols) (l : Segment) (p : passes g l ≡ true) (v w : ℕ) (Q : 0 < v + w) where
  abbrev row : ℕ
  row = row_at binary64 (on_x g ok) (on_y g ok) g.cols g.rows l (ready g ok l p) v w Q

  abbrev col : ℕ
  col = col_at binary64 (on_x g ok) (on_y g ok) g.cols g.rows l (ready g ok l p) v w Q

  spot_lists : elem (row * g.cols + col) (covering_of g l) ≡ true
  spot_lists =
      rw (covering_by_rule g l C p)
      (listed g.cols g.rows (fine_ends g l) row col
      (subst (λ (e : Ends). Listed g.cols g.rows e row col) (ends_same g ok l) (line_covered binary64 (on_x g ok) (on_y g ok) g.cols g.rows l (ready g ok l p) v w Q)))

  pub spot : T (fits binary64 g.cell_width) → T (fits binary64 g.cell_height) → Spot g l v w
  spot hx hy =
      let k = ready g ok l p in
      record {
        row = row;
        col = col;
        row_in = least_below _ g.rows ((fit_says g ok).counts.alike C);
        col_in = least_below _ g.cols C;
        lists = spot_lists;
        col_from = cell_from (x_axis g) (good_x g ok) hx l.start_x l.end_x k.start_x k.end_x v w Q;
        col_to = cell_to (x_axis g) (good_x g ok) hx l.start_x l.end_x k.start_x k.end_x v w Q;
        row_from = cell_from (y_axis g) (good_y g ok) hy l.start_y l.end_y k.start_y k.end_y v w Q;
        row_to = cell_to (y_axis g) (good_y g ok) hy l.start_y l.end_y k.start_y k.end_y v w Q;
      }
