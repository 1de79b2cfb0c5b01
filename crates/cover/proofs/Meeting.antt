-- Every exact point of a line has its cell listed, and that cell depends on the point alone: two lines with a common exact point share a cell. The two axes
-- are measured apart, each by its fine unit and its low side. Assumes nothing.
use mathlib.Core.Path.{◌≡◌, ap, subst}
use Prim.Native.Nat.{ℕ, ◌+◌, ◌*◌, ◌<◌}
use native.Mathlib.Nat.{mul_comm, mul_assoc, mul_left_comm, mul-pos}
use lib.Dec.{T}
use lib.Ieee.{Float, Format, sub, div, le, lt}
use lib.Ieee.Scale.{finite}
use lib.Ieee.Positive.{den, den_pos}
use Rattle.numbers.proofs.FloatOrder.{le→cross}
use Rattle.grid.specs.declared.Segment.{Segment}
use Rattle.cover.specs.declared.Ends.{Ends}
use Rattle.cover.specs.Fine.{limit}
use Rattle.cover.specs.Rule.{fine_cell}
use Rattle.cover.specs.Covering.{ordered}
use Rattle.cover.proofs.Covers.{Listed}
use Rattle.cover.proofs.Offsets.{Apart, gap, fine_of, fine_at, fine_of_lem, fine_same, apart_of, off_same, mean_off, mean_p, mean_n, mean_d}
use Rattle.cover.proofs.Fineness.{Sized}
use Rattle.cover.proofs.ExactPoints.{Offsets, Placed, Within, ends_at, cell_at, covered}
use Rattle.cover.proofs.Guarding.{within_of}

-- ---- one axis

-- how an axis is measured
pub record Measure (f : Format) : Type 0 where
  pub unit : Float
  pub low : Float
  pub sized : Sized f unit
  pub known : T (finite low)

-- a coordinate that passes the guard
pub record Inside (f : Format) (a : Measure f) (x : Float) : Type 0 where
  pub known : T (finite x)
  pub above : T (le a.low x)
  pub near : T (lt (div f (sub f x a.low) a.unit) limit)

-- the distances of two ends, over one denominator
module _ (f : Format) (a : Measure f) (x y : Float) (p : Inside f a x) (q : Inside f a y) where
  abbrev pub first_off : ℕ
  first_off = gap x a.low * den y

  abbrev pub second_off : ℕ
  second_off = gap y a.low * den x

  abbrev pub over : ℕ
  over = den x * den a.low * den y

  pub over_pos : 0 < over
  over_pos = mul-pos (mul-pos (den_pos x) (den_pos a.low)) (den_pos y)

  pub first_apart : Apart x a.low first_off over
  first_apart = apart_of x a.low (den y) p.known a.known (le→cross a.low x a.known p.known p.above)

  turn : (u v w : ℕ) → u * v * w ≡ w * v * u
  turn u v w = simp (mul_assoc, mul_comm, mul_left_comm)

  pub second_apart : Apart y a.low second_off over
  second_apart =
      subst (λ (c : ℕ). Apart y a.low second_off c) (turn (den y) (den a.low) (den x))
      (apart_of y a.low (den x) q.known a.known (le→cross a.low y a.known q.known q.above))

  pub first_within : Within f a.unit first_off over
  first_within = within_of f a.unit a.sized a.low x first_off over over_pos first_apart p.near

  pub second_within : Within f a.unit second_off over
  second_within = within_of f a.unit a.sized a.low y second_off over over_pos second_apart q.near

  first_fine : fine_of f a.unit a.low x ≡ fine_at f a.unit first_off over
  first_fine = fine_of_lem f a.unit a.low x first_off over a.sized.above over_pos first_apart

  second_fine : fine_of f a.unit a.low y ≡ fine_at f a.unit second_off over
  second_fine = fine_of_lem f a.unit a.low y second_off over a.sized.above over_pos second_apart

-- ---- a line

pub record Ready (f : Format) (X Y : Measure f) (l : Segment) : Type 0 where
  pub start_x : Inside f X l.start_x
  pub start_y : Inside f Y l.start_y
  pub end_x : Inside f X l.end_x
  pub end_y : Inside f Y l.end_y

-- its ends in fine units, as the code computes them
unfoldable pub line_ends : (f : Format) → Measure f → Measure f → Segment → Ends
line_ends f X Y l =
    ordered (fine_of f X.unit X.low l.start_x) (fine_of f Y.unit Y.low l.start_y) (fine_of f X.unit X.low l.end_x) (fine_of f Y.unit Y.low l.end_y)

module _ (f : Format) (X Y : Measure f) (cols rows : ℕ) where
  module _ (l : Segment) (k : Ready f X Y l) where
    abbrev pub offsets : Offsets
    offsets =
        record {
          x0 = first_off f X l.start_x l.end_x k.start_x k.end_x;
          x1 = second_off f X l.start_x l.end_x k.start_x k.end_x;
          over_x = over f X l.start_x l.end_x k.start_x k.end_x;
          y0 = first_off f Y l.start_y l.end_y k.start_y k.end_y;
          y1 = second_off f Y l.start_y l.end_y k.start_y k.end_y;
          over_y = over f Y l.start_y l.end_y k.start_y k.end_y;
        }

    placed : Placed f X.unit Y.unit offsets
    placed =
        record {
          x_pos = over_pos f X l.start_x l.end_x k.start_x k.end_x;
          y_pos = over_pos f Y l.start_y l.end_y k.start_y k.end_y;
          in_x0 = first_within f X l.start_x l.end_x k.start_x k.end_x;
          in_y0 = first_within f Y l.start_y l.end_y k.start_y k.end_y;
          in_x1 = second_within f X l.start_x l.end_x k.start_x k.end_x;
          in_y1 = second_within f Y l.start_y l.end_y k.start_y k.end_y;
        }

    same_ends : ends_at f X.unit Y.unit offsets ≡ line_ends f X Y l
    unfolding ends_at line_ends
    same_ends =
        rw (
          first_fine f X l.start_x l.end_x k.start_x k.end_x,
          first_fine f Y l.start_y l.end_y k.start_y k.end_y,
          second_fine f X l.start_x l.end_x k.start_x k.end_x,
          second_fine f Y l.start_y l.end_y k.start_y k.end_y,
        )

    -- the cell of the point with the weights v and w
    module _ (v w : ℕ) (Q : 0 < v + w) where
      abbrev pub row_at : ℕ
      row_at = cell_at f Y.unit rows (v * offsets.y0 + w * offsets.y1) ((v + w) * offsets.over_y)

      abbrev pub col_at : ℕ
      col_at = cell_at f X.unit cols (v * offsets.x0 + w * offsets.x1) ((v + w) * offsets.over_x)

      pub line_covered : Listed cols rows (line_ends f X Y l) row_at col_at
      line_covered =
          subst (λ (e : Ends). Listed cols rows e row_at col_at) same_ends
          (covered f X.unit Y.unit X.sized Y.sized cols rows offsets placed v w Q)

-- ---- two lines

-- (v * x + w * y) / (v + w) and (v' * x' + w' * y') / (v' + w') are the same exact number
pub record Same (v w : ℕ) (x y : Float) (v' w' : ℕ) (x' y' : Float) : Type 0 where
  pub is : mean_p v w x y * mean_d v' w' x' y' + mean_n v' w' x' y' * mean_d v w x y ≡ mean_p v' w' x' y' * mean_d v w x y + mean_n v w x y * mean_d v' w' x' y'

-- two lines have a common exact point
pub record Meet (l l' : Segment) : Type 0 where
  pub v : ℕ
  pub w : ℕ
  pub v' : ℕ
  pub w' : ℕ
  pub some : 0 < v + w
  pub some' : 0 < v' + w'
  pub on_x_lem : Same v w l.start_x l.end_x v' w' l'.start_x l'.end_x
  pub on_y_lem : Same v w l.start_y l.end_y v' w' l'.start_y l'.end_y

-- its fine coordinate is one number
module _ (f : Format) (a : Measure f) (x y x' y' : Float) (p : Inside f a x) (q : Inside f a y) (p' : Inside f a x') (q' : Inside f a y') (v w v' w' : ℕ) (Q : 0 < v + w) (Q' : 0 < v' + w') where
  same_fine : Same v w x y v' w' x' y'
      → fine_at f a.unit (v * first_off f a x y p q + w * second_off f a x y p q) ((v + w) * over f a x y p q)
      ≡ fine_at f a.unit (v' * first_off f a x' y' p' q' + w' * second_off f a x' y' p' q') ((v' + w') * over f a x' y' p' q')
  same_fine e =
      let o = first_off f a x y p q in
      let u = second_off f a x y p q in
      let c = over f a x y p q in
      let o' = first_off f a x' y' p' q' in
      let u' = second_off f a x' y' p' q' in
      let c' = over f a x' y' p' q' in
      fine_same f a.unit (v * o + w * u) ((v + w) * c) (v' * o' + w' * u') ((v' + w') * c') (mul-pos Q (over_pos f a x y p q)) (mul-pos Q' (over_pos f a x' y' p' q'))
      (off_same a.low (mean_p v w x y) (mean_n v w x y) (mean_d v w x y) (v * o + w * u) ((v + w) * c) (mean_p v' w' x' y') (mean_n v' w' x' y') (mean_d v' w' x' y') (v' * o' + w' * u') ((v' + w') * c')
      (mul-pos Q (mul-pos (den_pos x) (den_pos y))) (mul-pos Q' (mul-pos (den_pos x') (den_pos y')))
      (mean_off a.low x y v w o u c (first_apart f a x y p q) (second_apart f a x y p q))
      (mean_off a.low x' y' v' w' o' u' c' (first_apart f a x' y' p' q') (second_apart f a x' y' p' q')) e.is)

-- so its cell is listed for both
pub record Shared (f : Format) (X Y : Measure f) (cols rows : ℕ) (l l' : Segment) : Type 0 where
  pub row : ℕ
  pub col : ℕ
  pub first : Listed cols rows (line_ends f X Y l) row col
  pub second : Listed cols rows (line_ends f X Y l') row col

pub shared : (f : Format) (X Y : Measure f) (cols rows : ℕ) (l l' : Segment) → Ready f X Y l → Ready f X Y l' → Meet l l' → Shared f X Y cols rows l l'
shared f X Y cols rows l l' k k' t =
    record {
      row = row_at f X Y cols rows l k t.v t.w t.some;
      col = col_at f X Y cols rows l k t.v t.w t.some;
      first = line_covered f X Y cols rows l k t.v t.w t.some;
      second =
          rw (
            ap (fine_cell rows) (same_fine f Y l.start_y l.end_y l'.start_y l'.end_y k.start_y k.end_y k'.start_y k'.end_y t.v t.w t.v' t.w' t.some t.some' t.on_y_lem),
            ap (fine_cell cols) (same_fine f X l.start_x l.end_x l'.start_x l'.end_x k.start_x k.end_x k'.start_x k'.end_x t.v t.w t.v' t.w' t.some t.some' t.on_x_lem),
          )
          (line_covered f X Y cols rows l' k' t.v' t.w' t.some');
    }
