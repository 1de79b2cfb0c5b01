-- The exact points of a line, and their cells. The ends are given by their exact distances from the low corner of the grid, over one denominator on each
-- axis; a point by the whole weights v and w of the ends. Its fine coordinates are within 3 of what the ends' fine coordinates say, so the rule lists its cell.
-- Assumes nothing.
use mathlib.Core.Bool.{Bool, true, false, not, cond}
use Prim.Native.Nat.{ℕ, ◌+◌, ◌*◌, ◌^◌, ◌≤◌, ◌<◌, min, max}
use native.Mathlib.Nat.{le_of_lt, mul-le-mul_right, mul-le-mul_left, le_of_mul-le-mul_right, mul-pos}
use native.Mathlib.Omega.{arith}
use lib.Dec.{T, leb, leb→le, nleb→lt}
use lib.Ieee.{Float, Format, low, round}
use lib.Ieee.Order.{round_mono}
use lib.Ieee.Scale.{grid, finite}
use lib.Ieee.Positive.{num, den}
use Rattle.numbers.proofs.FloatQuotient.{num_pos}
use Rattle.numbers.proofs.FloatFractions.{nonneg_of_value, round_value, finite_under}
use Rattle.cover.specs.declared.Ends.{Ends}
use Rattle.cover.specs.Rule.{fine_cell}
use Rattle.cover.specs.Covering.{ordered}
use Rattle.cover.proofs.Covers.{At, Listed, covers}
use Rattle.cover.proofs.Offsets.{fine_at}
use Rattle.cover.proofs.Fineness.{Near, Sized, near, fine_mono}

-- an end's exact offset a / c from the grid's low corner: it rounds to a finite value, and is less than 2 ^ 32 fine units
pub record Within (f : Format) (d : Float) (a c : ℕ) : Type 0 where
  pub fine : T (finite (round f false a c))
  pub bound : a * den d ≤ 4294967294 * (num d * c)

-- ---- one axis: the ends' offsets are a / c and b / c, the point's (v * a + w * b) / ((v + w) * c)
-- from the three errors
close_over : (v w x y g U U' D : ℕ) → 0 < D → g * ((v + w) * D) ≤ v * U + w * U' + (v + w) * D → U ≤ (x + 2) * D → U' ≤ (y + 2) * D
    → g * (v + w) ≤ v * x + w * y + 3 * (v + w)
close_over v w x y g U U' D H a b c =
    let p : v * U ≤ v * ((x + 2) * D) = mul-le-mul_left v b in
    let q : w * U' ≤ w * ((y + 2) * D) = mul-le-mul_left w c in
    let z : g * (v + w) * D ≤ (v * x + w * y + 3 * (v + w)) * D = omega arith in
    le_of_mul-le-mul_right z H

close_under : (v w x y g U U' D : ℕ) → 0 < D → v * U + w * U' ≤ (g + 2) * ((v + w) * D) → x * D ≤ U + D → y * D ≤ U' + D
    → v * x + w * y ≤ (g + 3) * (v + w)
close_under v w x y g U U' D H a b c =
    let p : v * (x * D) ≤ v * (U + D) = mul-le-mul_left v b in
    let q : w * (y * D) ≤ w * (U' + D) = mul-le-mul_left w c in
    let z : (v * x + w * y) * D ≤ (g + 3) * (v + w) * D = omega arith in
    le_of_mul-le-mul_right z H

looser : (x y : ℕ) → x ≤ 4294967294 * y → x ≤ 4294967296 * y
looser x y h = omega arith

module _ (f : Format) (d : Float) (z : Sized f d) (c : ℕ) (C : 0 < c) (v w : ℕ) (Q : 0 < v + w) where
  -- the point is not past the farther end
  past : (a b : ℕ) → a ≤ b → (v * a + w * b) * c ≤ b * ((v + w) * c)
  past a b h = omega (arith, mul-le-mul_left (v * c) h)

  short : (a b : ℕ) → a ≤ b → a * ((v + w) * c) ≤ (v * a + w * b) * c
  short a b h = omega (arith, mul-le-mul_left (w * c) h)

  past' : (a b : ℕ) → b ≤ a → (v * a + w * b) * c ≤ a * ((v + w) * c)
  past' a b h = omega (arith, mul-le-mul_left (w * c) h)

  short' : (a b : ℕ) → b ≤ a → b * ((v + w) * c) ≤ (v * a + w * b) * c
  short' a b h = omega (arith, mul-le-mul_left (v * c) h)

  QC : 0 < (v + w) * c
  QC = mul-pos Q C

  finite_by : (p a : ℕ) → p * c ≤ a * ((v + w) * c) → T (finite (round f false a c)) → T (finite (round f false p ((v + w) * c)))
  finite_by p a h t =
      finite_under f p ((v + w) * c) (round f false a c) QC (nonneg_of_value (round f false a c) (grid f a c) (2 ^ low f) (round_value f a c t))
      (round_mono f p ((v + w) * c) a c QC C h)

  bound_by : (p a N E k : ℕ) → p * c ≤ a * ((v + w) * c) → a * E ≤ k * (N * c) → p * E ≤ k * (N * ((v + w) * c))
  bound_by p a N E k h b =
      let x : p * c * E ≤ a * ((v + w) * c) * E = mul-le-mul_right E h in
      let y : a * E * ((v + w) * c) ≤ k * (N * c) * ((v + w) * c) = mul-le-mul_right ((v + w) * c) b in
      let t : p * E * c ≤ k * (N * ((v + w) * c)) * c = omega arith in
      le_of_mul-le-mul_right t C

  module _ (a b : ℕ) (wa : Within f d a c) (wb : Within f d b c) where
    abbrev P : ℕ
    P = v * a + w * b

    abbrev g : ℕ
    g = fine_at f d (v * a + w * b) ((v + w) * c)

    ba : a * den d ≤ 4294967296 * (num d * c)
    ba = looser (a * den d) (num d * c) wa.bound

    bb : b * den d ≤ 4294967296 * (num d * c)
    bb = looser (b * den d) (num d * c) wb.bound

    -- the farther end e bounds the point
    module _ (e : ℕ) (far : P * c ≤ e * ((v + w) * c)) (te : T (finite (round f false e c))) (be : e * den d ≤ 4294967296 * (num d * c)) where
      fine_p : T (finite (round f false P ((v + w) * c)))
      fine_p = finite_by P e far te

      bound_p : P * den d ≤ 4294967296 * (num d * ((v + w) * c))
      bound_p = bound_by P e (num d) (den d) 4294967296 far be

      to_end : g ≤ fine_at f d e c
      to_end = fine_mono f d z P ((v + w) * c) e c QC C fine_p te bound_p be far

      from_end : (s : ℕ) → s * ((v + w) * c) ≤ P * c → T (finite (round f false s c)) → s * den d ≤ 4294967296 * (num d * c) → fine_at f d s c ≤ g
      from_end s h ts bs = fine_mono f d z s c P ((v + w) * c) C QC ts fine_p bs bound_p h

      near_p : Near (P * den d) (num d * ((v + w) * c)) g
      near_p = near f d z P ((v + w) * c) QC fine_p bound_p

      D : 0 < num d * c
      D = mul-pos (num_pos d z.above) C

      na : Near (a * den d) (num d * c) (fine_at f d a c)
      na = near f d z a c C wa.fine ba

      nb : Near (b * den d) (num d * c) (fine_at f d b c)
      nb = near f d z b c C wb.fine bb

      widen : (x N E : ℕ) → x * (N * ((v + w) * c)) ≤ (v * a + w * b) * E + N * ((v + w) * c) → x * ((v + w) * (N * c)) ≤ v * (a * E) + w * (b * E) + (v + w) * (N * c)
      widen x N E h = omega arith

      narrow : (x N E : ℕ) → (v * a + w * b) * E ≤ (x + 2) * (N * ((v + w) * c)) → v * (a * E) + w * (b * E) ≤ (x + 2) * ((v + w) * (N * c))
      narrow x N E h = omega arith

      at_over : g * (v + w) ≤ v * fine_at f d a c + w * fine_at f d b c + 3 * (v + w)
      at_over =
          close_over v w (fine_at f d a c) (fine_at f d b c) g (a * den d) (b * den d) (num d * c) D (widen g (num d) (den d) near_p.over) na.under nb.under

      at_under : v * fine_at f d a c + w * fine_at f d b c ≤ (g + 3) * (v + w)
      at_under =
          close_under v w (fine_at f d a c) (fine_at f d b c) g (a * den d) (b * den d) (num d * c) D (narrow g (num d) (den d) near_p.under) na.over nb.over

    least : (x y k : ℕ) → x ≤ k → min x y ≤ k
    least x y k h = omega arith

    least' : (x y k : ℕ) → y ≤ k → min x y ≤ k
    least' x y k h = omega arith

    most : (x y k : ℕ) → k ≤ x → k ≤ max x y
    most x y k h = omega arith

    most' : (x y k : ℕ) → k ≤ y → k ≤ max x y
    most' x y k h = omega arith

    pub at : At v w (fine_at f d a c) (fine_at f d b c) (fine_at f d (v * a + w * b) ((v + w) * c))
    at = go (leb a b) (leb→le a b) (nleb→lt a b)
      where
        go : (t : Bool) → (T t → a ≤ b) → (T (not t) → b < a) → At v w (fine_at f d a c) (fine_at f d b c) (fine_at f d (v * a + w * b) ((v + w) * c))
        go true h k = record {
          over = at_over b (past a b (h tt)) wb.fine bb;
          under = at_under b (past a b (h tt)) wb.fine bb;
          from = least (fine_at f d a c) (fine_at f d b c) g (from_end b (past a b (h tt)) wb.fine bb a (short a b (h tt)) wa.fine ba);
          to = most' (fine_at f d a c) (fine_at f d b c) g (to_end b (past a b (h tt)) wb.fine bb);
        }
        go false h k =
            let k' = le_of_lt (k tt) in record {
              over = at_over a (past' a b k') wa.fine ba;
              under = at_under a (past' a b k') wa.fine ba;
              from = least' (fine_at f d a c) (fine_at f d b c) g (from_end a (past' a b k') wa.fine ba b (short' a b k') wb.fine bb);
              to = most (fine_at f d a c) (fine_at f d b c) g (to_end a (past' a b k') wa.fine ba);
            }

    -- the point is within what its ends are within
    pub point_within : T (finite (round f false (v * a + w * b) ((v + w) * c))) × ((v * a + w * b) * den d ≤ 4294967296 * (num d * ((v + w) * c)))
    point_within = go (leb a b) (leb→le a b) (nleb→lt a b)
      where
        go : (t : Bool) → (T t → a ≤ b) → (T (not t) → b < a) → T (finite (round f false (v * a + w * b) ((v + w) * c))) × ((v * a + w * b) * den d ≤ 4294967296 * (num d * ((v + w) * c)))
        go true h k = (fine_p b (past a b (h tt)) wb.fine bb, bound_p b (past a b (h tt)) wb.fine bb)
        go false h k = let k' = le_of_lt (k tt) in (fine_p a (past' a b k') wa.fine ba, bound_p a (past' a b k') wa.fine ba)

-- ---- a segment: the exact offsets of its ends from the grid's low corner, over one denominator on each axis
pub record Offsets : Type 0 where
  pub x0 : ℕ
  pub y0 : ℕ
  pub x1 : ℕ
  pub y1 : ℕ
  pub over_x : ℕ
  pub over_y : ℕ

-- the ends in fine units, the lower one first
unfoldable pub ends_at : Format → Float → Float → Offsets → Ends
ends_at f dx dy s = ordered (fine_at f dx s.x0 s.over_x) (fine_at f dy s.y0 s.over_y) (fine_at f dx s.x1 s.over_x) (fine_at f dy s.y1 s.over_y)

pub record Placed (f : Format) (dx dy : Float) (s : Offsets) : Type 0 where
  pub x_pos : 0 < s.over_x
  pub y_pos : 0 < s.over_y
  pub in_x0 : Within f dx s.x0 s.over_x
  pub in_y0 : Within f dy s.y0 s.over_y
  pub in_x1 : Within f dx s.x1 s.over_x
  pub in_y1 : Within f dy s.y1 s.over_y

-- the column (row) of an exact offset p / q
abbrev pub cell_at : Format → Float → ℕ → ℕ → ℕ → ℕ
cell_at f d n p q = fine_cell n (fine_at f d p q)

turned : (v w a b g : ℕ) → At v w a b g → At w v b a g
turned v w a b g p = record { over = omega arith; under = omega arith; from = omega arith; to = omega arith }

module _ (f : Format) (d : Float) (z : Sized f d) where
  tall_of : (x U D : ℕ) → 0 < D → x * D ≤ U + D → U ≤ 4294967294 * D → x ≤ 4294967295
  tall_of x U D H a b = let t : x * D ≤ 4294967295 * D = omega arith in le_of_mul-le-mul_right t H

  pub tall : (a c : ℕ) → 0 < c → Within f d a c → fine_at f d a c ≤ 4294967295
  tall a c C p =
      tall_of (fine_at f d a c) (a * den d) (num d * c) (mul-pos (num_pos d z.above) C)
      (near f d z a c C p.fine (looser (a * den d) (num d * c) p.bound)).over p.bound

module _ (f : Format) (dx dy : Float) (zx : Sized f dx) (zy : Sized f dy) (cols rows : ℕ) (s : Offsets) (k : Placed f dx dy s) (v w : ℕ) (Q : 0 < v + w) where
  loose : (x : ℕ) → x ≤ 4294967295 → x ≤ 4294967296
  loose x h = omega arith

  pub covered : Listed cols rows (ends_at f dx dy s) (cell_at f dy rows (v * s.y0 + w * s.y1) ((v + w) * s.over_y)) (cell_at f dx cols (v * s.x0 + w * s.x1) ((v + w) * s.over_x))
  unfolding ends_at
  covered = go (leb Y0 Y1) (leb→le Y0 Y1) (nleb→lt Y0 Y1)
    where
      X0 : ℕ
      X0 = fine_at f dx s.x0 s.over_x

      Y0 : ℕ
      Y0 = fine_at f dy s.y0 s.over_y

      X1 : ℕ
      X1 = fine_at f dx s.x1 s.over_x

      Y1 : ℕ
      Y1 = fine_at f dy s.y1 s.over_y

      GX : ℕ
      GX = fine_at f dx (v * s.x0 + w * s.x1) ((v + w) * s.over_x)

      GY : ℕ
      GY = fine_at f dy (v * s.y0 + w * s.y1) ((v + w) * s.over_y)

      px : At v w X0 X1 GX
      px = at f dx zx s.over_x k.x_pos v w Q s.x0 s.x1 k.in_x0 k.in_x1

      py : At v w Y0 Y1 GY
      py = at f dy zy s.over_y k.y_pos v w Q s.y0 s.y1 k.in_y0 k.in_y1

      Q' : 0 < w + v
      Q' = omega (arith, Q)

      go : (t : Bool) → (T t → Y0 ≤ Y1) → (T (not t) → Y1 < Y0)
          → Listed cols rows (cond t (record { from_x = X0; from_y = Y0; to_x = X1; to_y = Y1 }) (record { from_x = X1; from_y = Y1; to_x = X0; to_y = Y0 })) (fine_cell rows GY) (fine_cell cols GX)
      go true h l = covers cols rows (record { from_x = X0; from_y = Y0; to_x = X1; to_y = Y1 }) v w GX GY Q (h tt) (loose Y1 (tall f dy zy s.y1 s.over_y k.y_pos k.in_y1)) px py
      go false h l =
          covers cols rows (record { from_x = X1; from_y = Y1; to_x = X0; to_y = Y0 }) w v GX GY Q' (le_of_lt (l tt)) (loose Y0 (tall f dy zy s.y0 s.over_y k.y_pos k.in_y0)) (turned v w X0 X1 GX px) (turned v w Y0 Y1 GY py)
