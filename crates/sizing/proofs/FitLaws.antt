-- The grids that a build tries are fit: the first one, and each that comes of halving the size where four times the cells are below 1,000,000.
-- So no caller sees refusal 8 on a grid that a build returns. `all_fit` says it in one statement, for whoever tries them; which sizing it was is asked for
-- the first size alone. Assumes nothing.
use Rattle.std.proofs.Common.{◌≡◌, ℕ, zero, suc, ◌+◌, ◌-◌, ◌*◌, ◌^◌, ◌<◌, ◌≤◌, true, false, ◌&&◌, T, leb, get_or, negsuc, sym, refl, ap, ◌∙◌, subst, le_trans, mul-le-mul, mul-le-mul_left, add-one, arith, le-leb}
use native.Mathlib.Nat.{pow-succ'}
use lib.Ieee.{Float, nan, fin, binary64, round, div, le}
use lib.Ieee.Positive.{num, den}
use lib.Ieee.Bits.{is_true}
use Rattle.numbers.specs.Order.{magnitude_of}
use Rattle.numbers.specs.Ceiling.{ceiling_of}
use Rattle.grid.specs.Domain.{Lines, count, coordinate, point, segment, line_fits, counts, shape, size_fits, sizes_fit, fit}
use Rattle.grid.proofs.Bools.{and_left, and_right, and_both}
use Rattle.grid.proofs.Shapes.{shape_cells}
use Rattle.grid.proofs.Fine.{LinesFit}
use Rattle.sizing.specs.declared.Sizing.{Sizing}
use Rattle.sizing.specs.declared.Extent.{Extent}
use Rattle.sizing.specs.declared.Size.{Size}
use Rattle.sizing.specs.Bounds.{lowest, reach, whole, extent_of}
use Rattle.sizing.specs.Size.{first_size, half_of}
use Rattle.sizing.specs.Counts.{count_on, grid_of, empty_grid}
use Rattle.sizing.proofs.Constants.{quarter, quarter_is, 2e9, 2e9_is}
use Rattle.sizing.proofs.Reach.{Lie, Spans, lowest_obeys, reach_spans}
use Rattle.numbers.proofs.FloatFractions.{nonneg_of_positive, cross→le}
use Rattle.sizing.proofs.Width.{stretched}
use Rattle.sizing.proofs.Halving.{Sized}
use Rattle.sizing.proofs.CountLaws.{count_exact, count_most, count_some, count_twice, half_across}
use Rattle.sizing.proofs.SizeLaws.{SizedOn, first_sized}

-- ---- the bounds of lines that pass the checks

pub record Within (e : Extent) : Type 0 where
  pub «min_x» : coordinate e.min_x ≡ true
  pub «min_y» : coordinate e.min_y ≡ true
  pub wide : Spans e.width
  pub high : Spans e.height

module _ (ls : Lines) (f : LinesFit ls) where
  -- every slice has every line
  pub whole_count : whole ls ≡ count ls
  whole_count = let a = f.same in omega arith

  line_parts : (i : ℕ) → i < count ls
      → (point (get_or ls.start_x i nan) (get_or ls.start_y i nan) ≡ true) × (point (get_or ls.end_x i nan) (get_or ls.end_y i nan) ≡ true)
  line_parts i l =
      let s = point (get_or ls.start_x i nan) (get_or ls.start_y i nan) in
      let t = point (get_or ls.end_x i nan) (get_or ls.end_y i nan) in
      let h : (s && t) ≡ true = unfold line_fits segment in f.each i l in
      (and_left s t h, and_right s t h)

  -- on either axis
  pub lie_x : Lie ls.start_x ls.end_x (count ls)
  unfolding point
  lie_x i l =
      let p = line_parts i l in (
        and_left (coordinate (get_or ls.start_x i nan)) (coordinate (get_or ls.start_y i nan)) p.0,
        and_left (coordinate (get_or ls.end_x i nan)) (coordinate (get_or ls.end_y i nan)) p.1,
      )

  pub lie_y : Lie ls.start_y ls.end_y (count ls)
  unfolding point
  lie_y i l =
      let p = line_parts i l in (
        and_right (coordinate (get_or ls.start_x i nan)) (coordinate (get_or ls.start_y i nan)) p.0,
        and_right (coordinate (get_or ls.end_x i nan)) (coordinate (get_or ls.end_y i nan)) p.1,
      )

  within_at : (n : ℕ) → whole ls ≡ suc n → count ls ≡ suc n → Within (extent_of ls)
  unfolding extent_of
  within_at n k c =
      let x : Lie ls.start_x ls.end_x (suc n) = subst (λ (m : ℕ). Lie ls.start_x ls.end_x m) c lie_x in
      let y : Lie ls.start_y ls.end_y (suc n) = subst (λ (m : ℕ). Lie ls.start_y ls.end_y m) c lie_y in
      record {
        «min_x» = subst (λ (m : ℕ). coordinate (lowest ls.start_x ls.end_x m) ≡ true) (sym k) (lowest_obeys ls.start_x ls.end_x n x);
        «min_y» = subst (λ (m : ℕ). coordinate (lowest ls.start_y ls.end_y m) ≡ true) (sym k) (lowest_obeys ls.start_y ls.end_y n y);
        wide = subst (λ (m : ℕ). Spans (reach ls.start_x ls.end_x m)) (sym k) (reach_spans ls.start_x ls.end_x n x);
        high = subst (λ (m : ℕ). Spans (reach ls.start_y ls.end_y m)) (sym k) (reach_spans ls.start_y ls.end_y n y);
      }

  pub lines_within : 1 ≤ count ls → Within (extent_of ls)
  lines_within N = let c : count ls ≡ suc (count ls - 1) = omega arith in within_at (count ls - 1) (whole_count ∙ c) c

-- ---- the counts, and the grid

counts_fit : (n : ℕ) → 1 ≤ n → n ≤ 4004 → counts n ≡ true
counts_fit n a b = and_both (leb 1 n) (leb n 4004) (le-leb 1 n a) (le-leb n 4004 b)

some : (n : ℕ) → 1 ≤ n → n ≡ 0 → ⊥
some n a b = omega arith

shape_fits : (cols rows : ℕ) → 1 ≤ cols → cols ≤ 4004 → 1 ≤ rows → rows ≤ 4004 → rows * cols ≤ 1002001 → shape cols rows ≡ true
shape_fits cols rows a b c d e = sym (shape_cells cols rows (some cols a) (counts_fit cols a b) (counts_fit rows c d)) ∙ le-leb (rows * cols) 1002001 e

size_fits_lem : (j : ℕ) (s : Float) → Sized j s → j ≤ 4 → size_fits s ≡ true
unfolding size_fits
size_fits_lem j s z few =
    let s+ = nonneg_of_positive s z.above in
    let a : 4722366482869645 * den s ≤ num s * 2 ^ 74 = le_trans z.least (mul-le-mul_left (num s) (mul-le-mul_left (2 ^ 72) few)) in
    let b : num s * 1 ≤ 2000000000 * den s = let m = z.most in omega arith in
    rw (quarter_is, 2e9_is) (and_both (le quarter s) (le s 2e9) (is_true (le quarter s) (cross→le quarter s tt s+ a)) (is_true (le s 2e9) (cross→le s 2e9 s+ tt b)))

module _ (e : Extent) (w : Within e) (j : ℕ) (s : Size) (z : SizedOn e j s) (few : j ≤ 4) where
  abbrev cols : ℕ
  cols = count_on e.width s.cell_width

  abbrev rows : ℕ
  rows = count_on e.height s.cell_height

  cols_most : cols ≤ 1001 * j
  cols_most = count_most e.width s.cell_width j z.wide few

  rows_most : rows ≤ 1001 * j
  rows_most = count_most e.height s.cell_height j z.high few

  cols_some : 1 ≤ cols
  cols_some = count_some e.width s.cell_width j z.wide few

  rows_some : 1 ≤ rows
  rows_some = count_some e.height s.cell_height j z.high few

  sizes_fit_lem : sizes_fit s.cell_width s.cell_height ≡ true
  unfolding sizes_fit
  sizes_fit_lem =
      and_both (size_fits s.cell_width) (size_fits s.cell_height)
      (size_fits_lem j s.cell_width z.wide.sized few) (size_fits_lem j s.cell_height z.high.sized few)

  grid_fits : (grid_of e s).rows * (grid_of e s).cols ≤ 1002001 → fit (grid_of e s) ≡ true
  unfolding fit grid_of point
  grid_fits h =
      and_both (coordinate e.min_x && coordinate e.min_y) (sizes_fit s.cell_width s.cell_height && shape cols rows)
      (and_both (coordinate e.min_x) (coordinate e.min_y) w.«min_x» w.«min_y»)
      (and_both (sizes_fit s.cell_width s.cell_height) (shape cols rows) sizes_fit_lem
      (shape_fits cols rows cols_some (omega (arith, cols_most)) rows_some (omega (arith, rows_most)) h))

-- ---- the grids that a build tries

-- the size s, after k halvings: its grid is fit
pub record Tried (e : Extent) (k : ℕ) (s : Size) : Type 0 where
  pub few : k ≤ 2
  pub sized : SizedOn e (2 ^ k) s
  pub fits : fit (grid_of e s) ≡ true

pub power_within : (k : ℕ) → k ≤ 2 → 2 ^ k ≤ 4
power_within zero h = omega arith
power_within (suc zero) h = omega arith
power_within (suc (suc zero)) h = omega arith
power_within (suc (suc (suc k))) h = absurd (omega arith)

power_below : (k : ℕ) → k < 2 → 2 ^ k ≤ 2
power_below zero h = omega arith
power_below (suc zero) h = omega arith
power_below (suc (suc k)) h = absurd (omega arith)

-- the first one, for as many lines as 64 bits can say: 1,001 by 1,001 at most
pub first_tried : (z : Sizing) (e : Extent) (n : ℕ) → Within e → 1 ≤ n → n ≤ 2 ^ 64 → Tried e 0 (first_size z e n)
unfolding grid_of
first_tried z e n w N most =
    let s = first_size z e n in
    let f = first_sized z e n w.wide w.high N most in
    let cells : (grid_of e s).rows * (grid_of e s).cols ≤ 1002001 = mul-le-mul (rows_most e w 1 s f (omega arith)) (cols_most e w 1 s f (omega arith)) in
    record { few = omega arith; sized = f; fits = grid_fits e w 1 s f (omega arith) cells }

-- each count at most doubles, so the cells are at most four times as many
fourfold : (r c r' c' : ℕ) → r' ≤ 2 * r → c' ≤ 2 * c → r * c * 4 < 1000000 → r' * c' ≤ 1002001
fourfold r c r' c' a b h = omega (arith, mul-le-mul a b)

half_sized_on : (e : Extent) (j : ℕ) (s : Size) → SizedOn e j s → j ≤ 2 → SizedOn e (2 * j) (half_of s)
unfolding half_of
half_sized_on e j s z few =
    record { wide = half_across e.width s.cell_width j z.wide few; high = half_across e.height s.cell_height j z.high few }

-- and after a halving
pub again_tried : (e : Extent) (k : ℕ) (s : Size) → Within e → Tried e k s → k < 2 → (grid_of e s).rows * (grid_of e s).cols * 4 < 1000000 → Tried e (k + 1) (half_of s)
unfolding grid_of half_of
again_tried e k s w t l h =
    let few : 2 ^ k ≤ 2 = power_below k l in
    let z = t.sized in
    let z' : SizedOn e (2 * 2 ^ k) (half_of s) = half_sized_on e (2 ^ k) s z few in
    let p : 2 ^ (k + 1) ≡ 2 * 2 ^ k = ap (λ (m : ℕ). 2 ^ m) (add-one k) ∙ pow-succ' 2 k in
    let g = grid_of e s in
    let g' = grid_of e (half_of s) in
    let c : g'.cols ≤ 2 * g.cols = count_twice e.width s.cell_width (2 ^ k) z.wide few in
    let r : g'.rows ≤ 2 * g.rows = count_twice e.height s.cell_height (2 ^ k) z.high few in
    record {
      few = omega arith;
      sized = subst (λ (m : ℕ). SizedOn e m (half_of s)) (sym p) z';
      fits = grid_fits e w (2 * 2 ^ k) (half_of s) z' (omega arith) (fourfold g.rows g.cols g'.rows g'.cols r c h);
    }

-- ---- all that can be tried

-- The size s with so many halvings left: its grid is fit, and so is every grid that comes of halving it, which is done only where four times the
-- cells are below 1,000,000.
abbrev pub AllFit : ℕ → Extent → Size → Type 0
AllFit zero e s = fit (grid_of e s) ≡ true
AllFit (suc left) e s = (fit (grid_of e s) ≡ true) × ((grid_of e s).rows * (grid_of e s).cols * 4 < 1000000 → AllFit left e (half_of s))

pub fit_now : (left : ℕ) (e : Extent) (s : Size) → AllFit left e s → fit (grid_of e s) ≡ true
fit_now zero e s h = h
fit_now (suc left) e s h = h.0

pub fit_next : (left : ℕ) (e : Extent) (s : Size) → 0 < left → AllFit left e s → (grid_of e s).rows * (grid_of e s).cols * 4 < 1000000 → AllFit (left - 1) e (half_of s)
fit_next zero e s l h few = absurd (omega arith)
fit_next (suc left) e s l h few = let z : suc left - 1 ≡ left = omega arith in rw z (h.1 few)

tried_all : (left : ℕ) (e : Extent) (k : ℕ) (s : Size) → Within e → k + left ≡ 2 → Tried e k s → AllFit left e s
tried_all zero e k s w z t = t.fits
tried_all (suc left) e k s w z t = (t.fits, λ few. tried_all left e (k + 1) (half_of s) w (omega arith) (again_tried e k s w t (omega arith) few))

-- every grid that can be tried from the first size on is fit, in either sizing
pub all_fit : (z : Sizing) (ls : Lines) → LinesFit ls → 1 ≤ count ls → AllFit 2 (extent_of ls) (first_size z (extent_of ls) (count ls))
all_fit z ls f N =
    let e = extent_of ls in
    let w : Within e = lines_within ls f N in
    tried_all 2 e 0 (first_size z e (count ls)) w refl (first_tried z e (count ls) w N (omega (arith, f.few)))

-- the same of grids that have a column
abbrev pub AllSome : ℕ → Extent → Size → Type 0
AllSome zero e s = 1 ≤ (grid_of e s).cols
AllSome (suc left) e s = (1 ≤ (grid_of e s).cols) × ((grid_of e s).rows * (grid_of e s).cols * 4 < 1000000 → AllSome left e (half_of s))

tried_some : (e : Extent) (k : ℕ) (s : Size) → Within e → Tried e k s → 1 ≤ (grid_of e s).cols
unfolding grid_of
tried_some e k s w t = cols_some e w (2 ^ k) s t.sized (power_within k t.few)

some_all : (left : ℕ) (e : Extent) (k : ℕ) (s : Size) → Within e → k + left ≡ 2 → Tried e k s → AllSome left e s
some_all zero e k s w z t = tried_some e k s w t
some_all (suc left) e k s w z t = (tried_some e k s w t, λ few. some_all left e (k + 1) (half_of s) w (omega arith) (again_tried e k s w t (omega arith) few))

-- every grid that can be tried for some lines has a column
pub all_some : (z : Sizing) (ls : Lines) → LinesFit ls → 1 ≤ count ls → AllSome 2 (extent_of ls) (first_size z (extent_of ls) (count ls))
all_some z ls f N =
    let e = extent_of ls in
    let w : Within e = lines_within ls f N in
    some_all 2 e 0 (first_size z e (count ls)) w refl (first_tried z e (count ls) w N (omega (arith, f.few)))

-- ---- what the counts and the size of a tried grid are

pub record Counted (e : Extent) (k : ℕ) (s : Size) : Type 0 where
  -- 32 bits are enough: the counts are the ceilings
  pub «cols-are» : (grid_of e s).cols ≡ ceiling_of (div binary64 (stretched e.width) s.cell_width)
  pub «rows_are» : (grid_of e s).rows ≡ ceiling_of (div binary64 (stretched e.height) s.cell_height)
  -- within 1,001, 2,002, 4,004
  pub «cols_most» : (grid_of e s).cols ≤ 1001 * 2 ^ k
  pub «rows_most» : (grid_of e s).rows ≤ 1001 * 2 ^ k

pub tried_counted : (e : Extent) (k : ℕ) (s : Size) → Within e → Tried e k s → Counted e k s
unfolding grid_of
tried_counted e k s w t =
    let few : 2 ^ k ≤ 4 = power_within k t.few in
    let z = t.sized in
    record {
      «cols-are» = count_exact e.width s.cell_width (2 ^ k) z.wide few;
      «rows_are» = count_exact e.height s.cell_height (2 ^ k) z.high few;
      «cols_most» = cols_most e w (2 ^ k) s z few;
      «rows_most» = rows_most e w (2 ^ k) s z few;
    }

-- each length is at least 1e-6, a half, a quarter of that, and at most 2e9
least_size : (k : ℕ) (s : Float) → k ≤ 2 → Sized (2 ^ k) s → T (le (round binary64 false 1 (1000000 * 2 ^ k)) s)
unfolding round
least_size zero s h z = cross→le (fin false 4722366482869645 (negsuc 71)) s tt (nonneg_of_positive s z.above) z.least
least_size (suc zero) s h z = cross→le (fin false 4722366482869645 (negsuc 72)) s tt (nonneg_of_positive s z.above) z.least
least_size (suc (suc zero)) s h z = cross→le (fin false 4722366482869645 (negsuc 73)) s tt (nonneg_of_positive s z.above) z.least
least_size (suc (suc (suc k))) s h z = absurd (omega arith)

abbrev pub Length : ℕ → Float → Type 0
Length k v = T (le (round binary64 false 1 (1000000 * 2 ^ k)) v) × T (le v (round binary64 false 2000000000 1))

length_is : (k : ℕ) (v : Float) → k ≤ 2 → Sized (2 ^ k) v → Length k v
length_is k v few z =
    let b : num v * 1 ≤ 2000000000 * den v = let m = z.most in omega arith in
    (least_size k v few z, rw 2e9_is (cross→le v 2e9 (nonneg_of_positive v z.above) tt b))

pub tried_size : (e : Extent) (k : ℕ) (s : Size) → Tried e k s → Length k s.cell_width × Length k s.cell_height
tried_size e k s t = (length_is k s.cell_width t.few t.sized.wide.sized, length_is k s.cell_height t.few t.sized.high.sized)

-- ---- no lines

pub empty_fits : fit empty_grid ≡ true
unfolding fit point coordinate magnitude_of size_fits sizes_fit shape empty_grid round le
empty_fits = refl
