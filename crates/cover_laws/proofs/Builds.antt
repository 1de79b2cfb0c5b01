-- Every line of a build passes the guard of the covering walk, on every grid that either sizing can choose: a coordinate lies between the bounds of all lines,
-- and these are at most 4,004 cells apart. `all_pass` says it in one statement, as `all_fit` of `sizing` says that these grids are fit. Assumes nothing.
use mathlib.Core.Path.{◌≡◌, refl, sym, ◌∙◌, subst}
use mathlib.Core.Bool.{false}
use mathlib.Core.List.{List}
use Prim.Native.Nat.{ℕ, zero, suc, ◌+◌, ◌-◌, ◌*◌, ◌^◌, ◌≤◌, ◌<◌}
use native.Mathlib.Nat.{mul-le-mul_right, mul-le-mul_left, mul-pos}
use native.Mathlib.Omega.{arith}
use lib.Dec.{T, lit<}
use lib.ListN.{get_or}
use lib.Ieee.{Float, nan, binary64, round, div, le}
use lib.Ieee.Order.{round_mono}
use lib.Ieee.Positive.{num, den, den_pos, positive}
use Rattle.numbers.proofs.FloatOrder.{float_le_trans}
use Rattle.numbers.proofs.FloatQuotient.{num_pos}
use Rattle.numbers.proofs.FloatFractions.{nonneg_of_positive, div_own, Times}
use Rattle.grid.specs.Domain.{Lines, count, segment_at}
use Rattle.grid.proofs.Fine.{LinesFit}
use Rattle.grid.proofs.Floats.{coordinate_finite}
use Rattle.sizing.specs.declared.Sizing.{Sizing}
use Rattle.sizing.specs.declared.Size.{Size}
use Rattle.sizing.specs.Bounds.{lowest, highest, reach, whole, extent_of}
use Rattle.sizing.specs.Size.{first_size, half_of}
use Rattle.sizing.specs.Counts.{grid_of}
use Rattle.sizing.proofs.Reach.{Lie, lowest_obeys, highest_obeys, lowest_below, highest_above}
use Rattle.sizing.proofs.Width.{stretched, stretched_is}
use Rattle.sizing.proofs.CountLaws.{Across}
use Rattle.sizing.proofs.FitLaws.{Within, Tried, whole_count, lie_x, lie_y, lines_within, first_tried, again_tried, power_within}
use Rattle.cover.proofs.Passing.{Extends, line_passes}
use Rattle.cover_laws.specs.Builds.{LinesPass, AllPass}

-- ---- one axis

-- what is at most 4,004 sizes is so by the rounded quotient
few_of : (x size : Float) (K : ℕ) → T (positive x) → T (positive size) → K ≤ 4004 → Times x size K → T (le (div binary64 x size) (round binary64 false 4004 1))
few_of x size K p q k h =
    rw (div_own binary64 x size (nonneg_of_positive x p) q)
    (round_mono binary64 (num x * den size) (num size * den x) 4004 1 (mul-pos (num_pos size q) (den_pos x)) (lit< tt) (same (num x * den size) (num size) (den x) K k h))
  where
    same : (y n d K : ℕ) → K ≤ 4004 → y ≤ K * n * d → y * 1 ≤ 4004 * (n * d)
    same y n d K k h = let u : K * (n * d) ≤ 4004 * (n * d) = mul-le-mul_right (n * d) k in omega arith

least_of : (n d j : ℕ) → j ≤ 4 → 4722366482869645 * d ≤ n * (4722366482869645213696 * j) → 1 * d ≤ n * 1099511627776
least_of n d j l h = let u : n * (4722366482869645213696 * j) ≤ n * (4722366482869645213696 * 4) = mul-le-mul_left n (mul-le-mul_left 4722366482869645213696 l) in omega arith

-- the axis of the first n lines, one of them at least
module _ (starts ends : List Float) (m : ℕ) (h : Lie starts ends (suc m)) (size : Float) (j cells : ℕ) (l : j ≤ 4) (a : Across (reach starts ends (suc m)) j size) where
  axis_extends : Extends (record { low = lowest starts ends (suc m); size = size; count = cells }) (highest starts ends (suc m))
  unfolding reach
  axis_extends =
      let z = a.sized in
      let w = reach starts ends (suc m) in
      record {
        size_above = z.above;
        size_held = z.held;
        size_least = least_of (num size) (den size) j l z.least;
        low_known = coordinate_finite (lowest starts ends (suc m)) (lowest_obeys starts ends m h);
        high_known = coordinate_finite (highest starts ends (suc m)) (highest_obeys starts ends m h);
        order = float_le_trans (lowest starts ends (suc m)) (get_or starts 0 nan) (highest starts ends (suc m)) (lowest_below starts ends m h 0 (omega arith)).0 (highest_above starts ends m h 0 (omega arith)).0;
        few = few_of (stretched w) size (1001 * j) (stretched_is w a.spans).above z.above (omega arith) a.times;
      }

-- the same with n lines, where n is known to be more than none
module _ (starts ends : List Float) (n m : ℕ) (e : n ≡ suc m) (h : Lie starts ends (suc m)) where
  sides_extend : (size : Float) (j cells : ℕ) → j ≤ 4 → Across (reach starts ends n) j size → Extends (record { low = lowest starts ends n; size = size; count = cells }) (highest starts ends n)
  sides_extend size j cells l a =
      subst (λ (p : ℕ). Extends (record { low = lowest starts ends p; size = size; count = cells }) (highest starts ends p)) (sym e)
      (axis_extends starts ends m h size j cells l (subst (λ (p : ℕ). Across (reach starts ends p) j size) e a))

  low_side : (i : ℕ) → i < suc m → T (le (lowest starts ends n) (get_or starts i nan)) × T (le (lowest starts ends n) (get_or ends i nan))
  low_side i l = subst (λ (p : ℕ). T (le (lowest starts ends p) (get_or starts i nan)) × T (le (lowest starts ends p) (get_or ends i nan))) (sym e) (lowest_below starts ends m h i l)

  high_side : (i : ℕ) → i < suc m → T (le (get_or starts i nan) (highest starts ends n)) × T (le (get_or ends i nan) (highest starts ends n))
  high_side i l = subst (λ (p : ℕ). T (le (get_or starts i nan) (highest starts ends p)) × T (le (get_or ends i nan) (highest starts ends p))) (sym e) (highest_above starts ends m h i l)

-- ---- the lines, on the grid of a size that is tried

module _ (ls : Lines) (f : LinesFit ls) (k : ℕ) (s : Size) (t : Tried (extent_of ls) k s) where
  some_pass : (m : ℕ) → whole ls ≡ suc m → count ls ≡ suc m → LinesPass (grid_of (extent_of ls) s) ls
  unfolding extent_of grid_of
  some_pass m w c i l =
      let x : Lie ls.start_x ls.end_x (suc m) = subst (λ (n : ℕ). Lie ls.start_x ls.end_x n) c (lie_x ls f) in
      let y : Lie ls.start_y ls.end_y (suc m) = subst (λ (n : ℕ). Lie ls.start_y ls.end_y n) c (lie_y ls f) in
      let g = grid_of (extent_of ls) s in
      let few = power_within k t.few in
      let z = t.sized in
      let in_lines : i < suc m = omega arith in
      let lx = low_side ls.start_x ls.end_x (whole ls) m w x i in_lines in
      let hx = high_side ls.start_x ls.end_x (whole ls) m w x i in_lines in
      let ly = low_side ls.start_y ls.end_y (whole ls) m w y i in_lines in
      let hy = high_side ls.start_y ls.end_y (whole ls) m w y i in_lines in
      line_passes g (highest ls.start_x ls.end_x (whole ls)) (highest ls.start_y ls.end_y (whole ls)) (segment_at ls i)
      (sides_extend ls.start_x ls.end_x (whole ls) m w x s.cell_width (2 ^ k) g.cols few z.wide)
      (sides_extend ls.start_y ls.end_y (whole ls) m w y s.cell_height (2 ^ k) g.rows few z.high)
      (record {
        start_x_low = lx.0;
        start_x_high = hx.0;
        start_y_low = ly.0;
        start_y_high = hy.0;
        end_x_low = lx.1;
        end_x_high = hx.1;
        end_y_low = ly.1;
        end_y_high = hy.1;
      })

  pub tried_pass : 1 ≤ count ls → LinesPass (grid_of (extent_of ls) s) ls
  tried_pass N = let c : count ls ≡ suc (count ls - 1) = omega arith in some_pass (count ls - 1) (whole_count ls f ∙ c) c

-- ---- all that can be tried

pub pass_now : (left : ℕ) (ls : Lines) (s : Size) → AllPass left ls s → LinesPass (grid_of (extent_of ls) s) ls
pass_now zero ls s h = h
pass_now (suc left) ls s h = h.0

pub pass_next : (left : ℕ) (ls : Lines) (s : Size) → 0 < left → AllPass left ls s → (grid_of (extent_of ls) s).rows * (grid_of (extent_of ls) s).cols * 4 < 1000000 → AllPass (left - 1) ls (half_of s)
pass_next zero ls s l h few = absurd (omega arith)
pass_next (suc left) ls s l h few = let z : suc left - 1 ≡ left = omega arith in rw z (h.1 few)

from_tried : (left : ℕ) (ls : Lines) (f : LinesFit ls) (N : 1 ≤ count ls) (k : ℕ) (s : Size) → Within (extent_of ls) → k + left ≡ 2 → Tried (extent_of ls) k s → AllPass left ls s
from_tried zero ls f N k s w z t = tried_pass ls f k s t N
from_tried (suc left) ls f N k s w z t =
    (tried_pass ls f k s t N, λ few. from_tried left ls f N (k + 1) (half_of s) w (omega arith) (again_tried (extent_of ls) k s w t (omega arith) few))

-- every line passes the guard on every grid that can be tried from the first size on, in either sizing
pub all_pass : (z : Sizing) (ls : Lines) → LinesFit ls → 1 ≤ count ls → AllPass 2 ls (first_size z (extent_of ls) (count ls))
all_pass z ls f N =
    let e = extent_of ls in
    let w : Within e = lines_within ls f N in
    from_tried 2 ls f N 0 (first_size z e (count ls)) w refl (first_tried z e (count ls) w N (omega (arith, f.few)))
