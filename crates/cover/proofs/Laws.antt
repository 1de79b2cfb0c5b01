-- The laws of the covering walk, for the crates above. On a fit grid the cells of a line increase and are cells of the grid; a line that passes the guard has
-- few of them; and `common`: two lines that share an exact point have a cell in common, whether they pass or not. Assumes nothing.
use mathlib.Core.Path.{◌≡◌, refl, sym, subst}
use mathlib.Core.Bool.{Bool, true, false, not}
use mathlib.Core.List.{List}
use Prim.Native.Nat.{ℕ, zero, suc, ◌+◌, ◌*◌, ◌≤◌, ◌<◌}
use native.Mathlib.Nat.{le_trans, mul-le-mul_left, mul-pos}
use native.Mathlib.Omega.{arith}
use borrow.Author.Tests.{lt-ltb, ltb-true, ltb-false}
use lib.Dec.{T, ltb, lit≤, lit<}
use lib.ListN.{length}
use lib.IntN.{pos, negsuc}
use lib.Ieee.{Float, fin, binary64, round, le}
use lib.Ieee.Order.{round_mono}
use lib.Ieee.Positive.{num, den, den_pos, positive, between}
use Rattle.numbers.proofs.FloatFractions.{nonneg_of_positive, own_value, le→cross, div_at}
use Rattle.slices.specs.Lists.{Below, Rising}
use Rattle.grid.specs.declared.Axis.{Axis}
use Rattle.grid.specs.declared.Grid.{Grid}
use Rattle.grid.specs.declared.Segment.{Segment}
use Rattle.grid.specs.Axes.{x_axis, y_axis}
use Rattle.grid.specs.Domain.{coordinate, size_fits, fit}
use Rattle.grid.specs.Points.{SharePoint}
use Rattle.grid.proofs.Bools.{and_left, and_right}
use Rattle.grid.proofs.Floats.{coordinate_finite, size_bounds, size_positive}
use Rattle.grid.proofs.Shapes.{Fit, fit_says}
use Rattle.cover.specs.declared.Ends.{Ends}
use Rattle.cover.specs.Fine.{unit_on, units_on, fine_on, near_on}
use Rattle.cover.specs.Rule.{cells_between}
use Rattle.cover.specs.Covering.{passes, fine_ends, every_cell, covering_of, off_grid, everywhere, Common}
use Rattle.cover.proofs.Covers.{Listed}
use Rattle.cover.proofs.Growing.{length_run}
use Rattle.cover.proofs.Cells.{listed, listed_below, in_all, all_rise, cells_rise}
use Rattle.cover.proofs.Few.{cells_few}
use Rattle.cover.proofs.Offsets.{fine_of}
use Rattle.cover.proofs.Fineness.{Sized}
use Rattle.cover.proofs.Guarding.{known_of, near_le, near_lt}
use Rattle.cover.proofs.Meeting.{Measure, Inside, Ready, line_ends, Meet, shared}
use Rattle.cover.proofs.WholePoints.{meet_of}
use Rattle.cover.proofs.Entry.{passes_says, ends_small, covering_none, covering_by_rule, covering_all}

-- ---- an axis of a fit grid is measured: its fine unit lies between 2^-60 and 2e9

quarter_is : round binary64 false 1 4000000 ≡ fin false 4722366482869645 (negsuc 73)
unfolding round
quarter_is = refl

2e9_is : round binary64 false 2000000000 1 ≡ fin false 1953125 (pos 10)
unfolding round
2e9_is = refl

abbrev least : Float
least = fin false 1 (negsuc 59)

least_is : round binary64 false 1 1152921504606846976 ≡ least
unfolding round
least_is = refl

by_size : (d n : ℕ) → 4722366482869645 * d ≤ n * 18889465931478580854784 → 1 * (1048576 * d) ≤ n * 1 * 1152921504606846976
by_size d n h = omega arith

not_more : (d n : ℕ) → n * 1 ≤ 2000000000 * d → n * 1 * 1 ≤ 2000000000 * (1048576 * d)
not_more d n h = omega arith

thousand : (n e : ℕ) → 1 * e ≤ n * 1152921504606846976 → 1000 * e ≤ n * 1152921504606846976000
thousand n e h = omega arith

module _ (a : Axis) (low_fits : coordinate a.low ≡ true) (size_fits_lem : size_fits a.size ≡ true) where
  abbrev s : Float
  s = a.size

  s+ : T (positive s)
  s+ = size_positive s size_fits_lem

  unit_is : unit_on a ≡ round binary64 false (num s * 1) (1048576 * den s)
  unfolding unit_on
  unit_is = div_at binary64 s (fin false 1 (pos 20)) (num s) (den s) 1048576 1 tt (den_pos s) (lit< tt) (own_value s (nonneg_of_positive s s+)) (refl, refl)

  over : 0 < 1048576 * den s
  over = mul-pos (lit< tt) (den_pos s)

  unit_least : T (le least (unit_on a))
  unit_least =
      let q = le→cross (fin false 4722366482869645 (negsuc 73)) s tt (nonneg_of_positive s s+) (subst (λ (v : Float). T (le v s)) quarter_is (size_bounds s size_fits_lem).0) in
      rw unit_is
      (subst (λ (v : Float). T (le v (round binary64 false (num s * 1) (1048576 * den s)))) least_is
      (round_mono binary64 1 1152921504606846976 (num s * 1) (1048576 * den s) (lit< tt) over (by_size (den s) (num s) q)))

  unit_most : T (le (unit_on a) (fin false 1953125 (pos 10)))
  unit_most =
      let q = le→cross s (fin false 1953125 (pos 10)) (nonneg_of_positive s s+) tt (subst (λ (v : Float). T (le s v)) 2e9_is (size_bounds s size_fits_lem).1) in
      rw unit_is
      (subst (λ (v : Float). T (le (round binary64 false (num s * 1) (1048576 * den s)) v)) 2e9_is
      (round_mono binary64 (num s * 1) (1048576 * den s) 2000000000 1 over (lit< tt) (not_more (den s) (num s) q)))

  unit+ : T (positive (unit_on a))
  unit+ = between least (unit_on a) (fin false 1953125 (pos 10)) tt tt unit_least unit_most

  pub unit_sized : Sized binary64 (unit_on a)
  unit_sized =
      let d = unit_on a in
      record {
        above = unit+;
        big = le_trans (thousand (num d) (den d) (le→cross least d tt (nonneg_of_positive d unit+) unit_least)) (mul-le-mul_left (num d) (lit≤ tt));
        wide = lit≤ tt;
        deep = lit≤ tt;
        holds = lit≤ tt;
      }

  abbrev pub measured : Measure binary64
  measured = record { unit = unit_on a; low = a.low; sized = unit_sized; known = coordinate_finite a.low low_fits }

  inside : (v : Float) → near_on a v ≡ true → Inside binary64 measured v
  unfolding units_on
  inside v h =
      record {
        known = known_of binary64 (unit_on a) a.low v (coordinate_finite a.low low_fits) unit+ (near_le a v h) (near_lt a v h);
        above = near_le a v h;
        near = near_lt a v h;
      }

-- ---- a line that is everywhere

module _ (g : Grid) (line : Segment) (e : everywhere g line ≡ true) where
  many : 2048 < g.rows * g.cols
  unfolding everywhere
  many = ltb-true 2048 (g.rows * g.cols) (and_right (not (passes g line)) (ltb 2048 (g.rows * g.cols)) e)

  some : 0 < g.cols
  some = go g.rows g.cols many
    where
      go : (r c : ℕ) → 2048 < r * c → 0 < c
      go r zero h = absurd (omega arith)
      go r (suc c) h = omega arith

  fails : not (passes g line) ≡ true
  unfolding everywhere
  fails = and_left (not (passes g line)) (ltb 2048 (g.rows * g.cols)) e

  -- it is off the grid
  pub everywhere_off : off_grid g line ≡ true
  unfolding off_grid
  everywhere_off = rw (lt-ltb 0 g.cols some, fails)

  -- its cells are all, and more than 2,048: in a build it is global
  pub everywhere_all : (length (covering_of g line) ≡ g.rows * g.cols) × (2048 < g.rows * g.cols)
  everywhere_all = (rw (covering_all g line some (go (passes g line) fails)) (length_run (g.rows * g.cols) 0), many)
    where
      go : (b : Bool) → not b ≡ true → b ≡ false
      go true h = sym h
      go false h = refl

-- ---- a line on a fit grid

module _ (g : Grid) (h : fit g ≡ true) where
  abbrev f : Fit g
  f = fit_says g h

  abbrev pub on_x : Measure binary64
  on_x = measured (x_axis g) f.«min_x» f.«cell-width»

  abbrev pub on_y : Measure binary64
  on_y = measured (y_axis g) f.«min_y» f.«cell-height»

  pub ends_same : (line : Segment) → line_ends binary64 on_x on_y line ≡ fine_ends g line
  unfolding line_ends fine_ends fine_of fine_on units_on
  ends_same line = refl

  pub ready : (line : Segment) → passes g line ≡ true → Ready binary64 on_x on_y line
  ready line p =
      let q = passes_says g line p in
      record {
        start_x = inside (x_axis g) f.«min_x» f.«cell-width» line.start_x q.start_x;
        start_y = inside (y_axis g) f.«min_y» f.«cell-height» line.start_y q.start_y;
        end_x = inside (x_axis g) f.«min_x» f.«cell-width» line.end_x q.end_x;
        end_y = inside (y_axis g) f.«min_y» f.«cell-height» line.end_y q.end_y;
      }

  -- ---- its cells

  -- the cells of a line increase, none twice, and are cells of the grid
  pub covering_rises : (line : Segment) → Rising 0 (covering_of g line) × Below (g.rows * g.cols) (covering_of g line)
  covering_rises line = go g.cols refl (passes g line) refl
    where
      go : (n : ℕ) → g.cols ≡ n → (b : Bool) → passes g line ≡ b → Rising 0 (covering_of g line) × Below (g.rows * g.cols) (covering_of g line)
      go zero e b p = rw (covering_none g line e) (tt, tt)
      go (suc n) e true p =
          let C : 0 < g.cols = omega arith in
          let z = cells_rise g.cols g.rows (fine_ends g line) C (f.counts.alike C) in
          rw (covering_by_rule g line C p) (z.rising, z.below)
      go (suc n) e false p =
          let C : 0 < g.cols = omega arith in
          let z = all_rise (g.rows * g.cols) in
          rw (covering_all g line C p) (z.rising, z.below)

  -- a line that passes the guard has at most two cells for each row and each column
  pub covering_few : (line : Segment) → passes g line ≡ true → length (covering_of g line) ≤ 2 * g.cols + 2 * g.rows
  covering_few line p = go g.cols refl
    where
      go : (n : ℕ) → g.cols ≡ n → length (covering_of g line) ≤ 2 * g.cols + 2 * g.rows
      go zero e = rw (covering_none g line e) (omega arith)
      go (suc n) e =
          let C : 0 < g.cols = omega arith in
          rw (covering_by_rule g line C p) (cells_few g.cols g.rows (fine_ends g line) (ends_small g line p).0 C (f.counts.alike C))

  everywhere_short : (line : Segment) → everywhere g line ≡ false → passes g line ≡ false → g.rows * g.cols ≤ 2048
  unfolding everywhere
  everywhere_short line e p = ltb-false 2048 (g.rows * g.cols) (rw p at e)

  -- every other line's cells are at most 16,016, which any scratch holds that passes refusal 3
  pub found_few : (line : Segment) → everywhere g line ≡ false → length (covering_of g line) ≤ 16016
  found_few line e = go (passes g line) refl
    where
      go : (b : Bool) → passes g line ≡ b → length (covering_of g line) ≤ 16016
      go true p = let a = covering_few line p in let w = f.counts.wide in let k = f.counts.high in omega arith
      go false p = few g.cols refl
        where
          few : (n : ℕ) → g.cols ≡ n → length (covering_of g line) ≤ 16016
          few zero q = rw (covering_none g line q) (omega arith)
          few (suc n) q =
              let C : 0 < g.cols = omega arith in
              let m = everywhere_short line e p in
              rw (covering_all g line C p, length_run (g.rows * g.cols) 0) (omega arith)

-- ---- two lines

module _ (g : Grid) (h : fit g ≡ true) (C : 0 < g.cols) where
  R : 0 < g.rows
  R = (fit_says g h).counts.alike C

  both : (l k : Segment) → passes g l ≡ true → passes g k ≡ true → Meet l k → Common (cells_between g.cols g.rows (fine_ends g l)) (cells_between g.cols g.rows (fine_ends g k))
  both l k p q t =
      let z = shared binary64 (on_x g h) (on_y g h) g.cols g.rows l k (ready g h l p) (ready g h k q) t in
      let u : Listed g.cols g.rows (fine_ends g l) z.row z.col = subst (λ (e : Ends). Listed g.cols g.rows e z.row z.col) (ends_same g h l) z.first in
      let v : Listed g.cols g.rows (fine_ends g k) z.row z.col = subst (λ (e : Ends). Listed g.cols g.rows e z.row z.col) (ends_same g h k) z.second in
      record {
        cell = z.row * g.cols + z.col;
        in_first = listed g.cols g.rows (fine_ends g l) z.row z.col u;
        in_second = listed g.cols g.rows (fine_ends g k) z.row z.col v;
      }

  -- a line that passes lists a cell of the grid: that of an end
  itself : (l : Segment) → Meet l l
  itself l = record { v = 1; w = 0; v' = 1; w' = 0; some = lit< tt; some' = lit< tt; on_x_lem = record { is = refl }; on_y_lem = record { is = refl } }

  one_of : (l : Segment) → passes g l ≡ true → Common (cells_between g.cols g.rows (fine_ends g l)) (every_cell g)
  one_of l p =
      let z = both l l p p (itself l) in
      record {
        cell = z.cell;
        in_first = z.in_first;
        in_second = in_all (g.rows * g.cols) z.cell (listed_below g.cols g.rows (fine_ends g l) C R z.cell z.in_first);
      }

  turn : {xs ys : List ℕ} → Common xs ys → Common ys xs
  turn c = record { cell = c.cell; in_first = c.in_second; in_second = c.in_first }

  meeting : (l k : Segment) → Meet l k → Common (covering_of g l) (covering_of g k)
  meeting l k t = go (passes g l) (passes g k) refl refl
    where
      go : (a b : Bool) → passes g l ≡ a → passes g k ≡ b → Common (covering_of g l) (covering_of g k)
      go true true p q = rw (covering_by_rule g l C p, covering_by_rule g k C q) (both l k p q t)
      go true false p q = rw (covering_by_rule g l C p, covering_all g k C q) (one_of l p)
      go false true p q = rw (covering_all g l C p, covering_by_rule g k C q) (turn (one_of k q))
      go false false p q =
          let z = in_all (g.rows * g.cols) 0 (mul-pos R C) in
          rw (covering_all g l C p, covering_all g k C q) (record { cell = 0; in_first = z; in_second = z })

  -- two lines that share an exact point have a cell in common
  pub common : (l k : Segment) → SharePoint l k → Common (covering_of g l) (covering_of g k)
  common l k s = meeting l k (meet_of l k s)
