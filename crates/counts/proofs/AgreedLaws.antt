-- The agreed grid.
--     agreed-fits               it is fit, in either sizing, for every number of lines that 64 bits can say
--     agreed-first              from the bounds and the number of some lines it is the first grid that a build of them tries
-- Assumes nothing.
use mathlib.Core.Path.{◌≡◌, sym, ap, subst}
use mathlib.Core.Bool.{true, ◌&&◌}
use mathlib.Core.List.{List}
use Prim.Native.Nat.{ℕ, zero, suc, ◌≤◌, ◌<◌, ◌^◌}
use native.Mathlib.Omega.{arith}
use lib.Dec.{T}
use lib.Ieee.{Float, nan, inf, fin, binary64, sub, le}
use lib.ListN.{get_or}
use Rattle.numbers.specs.Order.{least_of, greatest_of}
use Rattle.numbers.proofs.FloatOrder.{number, float_le_trans, not_under, le_number}
use Rattle.grid.specs.declared.Segment.{Segment}
use Rattle.grid.specs.Domain.{Lines, count, segment_by, coordinate, point, segment, fit}
use Rattle.grid.proofs.Bools.{and_left, and_right}
use Rattle.grid.proofs.Fine.{LinesFit}
use Rattle.grid.proofs.Floats.{coordinate_number}
use Rattle.sizing.specs.declared.Sizing.{Sizing}
use Rattle.sizing.specs.declared.Extent.{Extent}
use Rattle.sizing.specs.Bounds.{lowest, highest, reach, whole, extent_of}
use Rattle.sizing.specs.Size.{first_size}
use Rattle.sizing.specs.Counts.{grid_of}
use Rattle.numbers.proofs.Extremes.{least_one, greatest_one, least_under, greatest_over, no_nan}
use Rattle.sizing.proofs.Reach.{Lie, coordinate_says, Spans, difference, lowest_below, highest_above}
use Rattle.sizing.proofs.FitLaws.{Within, first_tried, empty_fits, whole_count, lie_x, lie_y}
use Rattle.counts.specs.Agreed.{bounds_of, agreed_on}

-- ---- the bounds of two corners that obey the coordinate rule

-- on one axis
corners_span : (a b : Float) → coordinate a ≡ true → coordinate b ≡ true → Spans (sub binary64 (greatest_of b a) (least_of a b))
corners_span a b h k =
    let p = coordinate_number a h in
    let q = coordinate_number b k in
    difference (least_of a b) (greatest_of b a) (coordinate_says (least_of a b) (least_one (λ (v : Float). coordinate v ≡ true) a b h k))
    (coordinate_says (greatest_of b a) (greatest_one (λ (v : Float). coordinate v ≡ true) b a k h))
    (float_le_trans (least_of a b) a (greatest_of b a) (least_under a b p q).0 (greatest_over b a q p).1)

corners_within : (c : Segment) → segment c ≡ true → Within (bounds_of c)
unfolding segment point bounds_of
corners_within c h =
    let a = coordinate c.start_x in
    let b = coordinate c.start_y in
    let d = coordinate c.end_x in
    let e = coordinate c.end_y in
    let s = and_left (a && b) (d && e) h in
    let t = and_right (a && b) (d && e) h in
    let ax = and_left a b s in
    let ay = and_right a b s in
    let bx = and_left d e t in
    let by = and_right d e t in
    record {
      «min_x» = least_one (λ (v : Float). coordinate v ≡ true) c.start_x c.end_x ax bx;
      «min_y» = least_one (λ (v : Float). coordinate v ≡ true) c.start_y c.end_y ay by;
      wide = corners_span c.start_x c.end_x ax bx;
      high = corners_span c.start_y c.end_y ay by;
    }

-- THE AGREED GRID IS FIT, for any number of lines
pub agreed_fits : (z : Sizing) (c : Segment) (n : ℕ) → segment c ≡ true → n < 2 ^ 64 → fit (agreed_on z (bounds_of c) n) ≡ true
unfolding agreed_on
agreed_fits z c zero h l = empty_fits
agreed_fits z c (suc n) h l = (first_tried z (bounds_of c) (suc n) (corners_within c h) (omega arith) (omega arith)).fits

-- ---- the bounds of lines, as corners

lower_number : (x y : Float) → T (le x y) → T (number x)
unfolding le
lower_number nan y t = absurd t
lower_number (inf s) y t = tt
lower_number (fin s m e) y t = tt

-- corners in order keep their places
least_kept : (lo hi : Float) → T (le lo hi) → least_of lo hi ≡ lo
unfolding least_of
least_kept lo hi h = rw (not_under lo hi h, no_nan lo (lower_number lo hi h))

greatest_kept : (lo hi : Float) → T (le lo hi) → greatest_of hi lo ≡ hi
unfolding greatest_of
greatest_kept lo hi h = rw (not_under lo hi h, no_nan hi (le_number lo hi h))

-- the lower and the upper corner of all lines
abbrev pub corners_of : Lines → Segment
corners_of ls =
    segment_by (lowest ls.start_x ls.end_x (whole ls)) (lowest ls.start_y ls.end_y (whole ls)) (highest ls.start_x ls.end_x (whole ls))
    (highest ls.start_y ls.end_y (whole ls))

axis_in_order : (starts ends : List Float) (n : ℕ) → 1 ≤ n → Lie starts ends n → T (le (lowest starts ends n) (highest starts ends n))
axis_in_order starts ends zero N h = absurd (omega arith)
axis_in_order starts ends (suc n) N h =
    float_le_trans (lowest starts ends (suc n)) (get_or starts 0 nan) (highest starts ends (suc n)) (lowest_below starts ends n h 0 (omega arith)).0
    (highest_above starts ends n h 0 (omega arith)).0

corners_bound : (ls : Lines) → LinesFit ls → 1 ≤ count ls → bounds_of (corners_of ls) ≡ extent_of ls
unfolding bounds_of extent_of reach
corners_bound ls f N =
    let w = whole_count ls f in
    let x = axis_in_order ls.start_x ls.end_x (whole ls) (omega arith) (subst (λ (n : ℕ). Lie ls.start_x ls.end_x n) (sym w) (lie_x ls f)) in
    let y = axis_in_order ls.start_y ls.end_y (whole ls) (omega arith) (subst (λ (n : ℕ). Lie ls.start_y ls.end_y n) (sym w) (lie_y ls f)) in
    rw (least_kept _ _ x, greatest_kept _ _ x, least_kept _ _ y, greatest_kept _ _ y)

-- OF SOME LINES IT IS THE FIRST GRID THAT A BUILD TRIES
pub agreed_first : (z : Sizing) (ls : Lines) → LinesFit ls → 1 ≤ count ls → agreed_on z (bounds_of (corners_of ls)) (count ls) ≡ grid_of (extent_of ls) (first_size z (extent_of ls) (count ls))
agreed_first z ls f N = go (count ls) N (bounds_of (corners_of ls)) (corners_bound ls f N)
  where
    go : (n : ℕ) → 1 ≤ n → (e : Extent) → e ≡ extent_of ls → agreed_on z e n ≡ grid_of (extent_of ls) (first_size z (extent_of ls) n)
    go zero N e h = absurd (omega arith)
    go (suc n) N e h = unfold agreed_on in ap (λ (x : Extent). grid_of x (first_size z x (suc n))) h
