-- The first size of lines that reach from 0 to 2e9 each way, in either sizing: each length is from 1e-6 to 2e9, and at least a thousandth of what its axis
-- reaches. Assumes nothing.
use Rattle.std.proofs.Common.{◌≡◌, ℕ, zero, suc, ◌*◌, ◌^◌, ◌<◌, ◌≤◌, Bool, true, false, cond, T, pos, negsuc, sym, refl, subst, le_trans, le_of_eq, mul-le-mul_right, mul-le-mul, mul-pos, mul-one, arith, lit<, lit≤, pow_pos}
use lib.Ieee.{Float, nan, inf, fin, binary64, up, down, unlike, fits, round, of_int, mul, div, lt, le}
use lib.Ieee.Order.{round_mono}
use lib.Ieee.Fits.{div-fits, of_int-fits}
use lib.Ieee.Scale.{finite}
use lib.Ieee.Positive.{num, den, den_pos, positive, between}
use Rattle.numbers.specs.Order.{greatest_of}
use Rattle.numbers.specs.Root.{root}
use Rattle.numbers.specs.Nearer.{plain, above}
use Rattle.numbers.proofs.Correct.{root_above}
use Rattle.numbers.proofs.RootFacts.{root_order, root_square}
use Rattle.numbers.proofs.FloatOrder.{number, float_le_trans, at_most, le_self, le_number}
use Rattle.numbers.proofs.FloatSum.{below_zero, round_number}
use Rattle.numbers.proofs.FloatQuotient.{num_pos, div_mono}
use Rattle.sizing.specs.declared.Sizing.{Sizing}
use Rattle.sizing.specs.declared.Sizing.TheVariants.{Square, Axes}
use Rattle.sizing.specs.declared.Extent.{Extent}
use Rattle.sizing.specs.declared.Size.{Size}
use Rattle.sizing.specs.Size.{largest, area_of, square_side, length_on, first_size}
use Rattle.sizing.proofs.Constants.{nought, 1e-9, 1e-9_is, 1e-6, 1e-6_is, thousand, thousand_is, 2e9, 2e9_is}
use Rattle.numbers.proofs.Extremes.{greatest_one, greatest_over}
use Rattle.sizing.proofs.Reach.{Spans}
use Rattle.numbers.proofs.FloatFractions.{nonneg, own_value, nonneg_of_positive, le→cross, div_at, neg_zero_of}
use Rattle.sizing.proofs.Width.{width_times}
use Rattle.sizing.proofs.Halving.{Sized}
use Rattle.sizing.proofs.CountLaws.{Across}

-- ---- the square root of what is above 0 and at most 4e18 is at most 2e9

abbrev 4e18 : Float
4e18 = fin false 3814697265625 (pos 20)

root_of_4e18 : root 4e18 ≡ 2e9
root_of_4e18 = root_square 4e18 2e9 (unfold fits in tt) tt (unfold fits in tt) tt refl

-- and that of a number of lines, from 1 to 2^64, is from 1 to 2^32

abbrev one : Float
one = fin false 1 (pos 0)

one_is : round binary64 false 1 1 ≡ one
unfolding round
one_is = refl

abbrev 2^64f : Float
2^64f = fin false 1 (pos 64)

2^64_is : round binary64 false (2 ^ 64) 1 ≡ 2^64f
unfolding round
2^64_is = refl

abbrev 2^32f : Float
2^32f = fin false 1 (pos 32)

root_of_1 : root one ≡ one
root_of_1 = root_square one one (unfold fits in tt) tt (unfold fits in tt) tt refl

root_of_2^64 : root 2^64f ≡ 2^32f
root_of_2^64 = root_square 2^64f 2^32f (unfold fits in tt) tt (unfold fits in tt) tt refl

record Rooted (v : Float) : Type 0 where
  above_zero : T (positive v)
  most : T (le v 4e18)

above_is : (v : Float) → T (positive v) → T (above v)
above_is nan p = absurd p
above_is (inf s) p = absurd p
above_is (fin true m e) p = absurd p
above_is (fin false zero e) p = absurd p
above_is (fin false (suc m) e) p = tt

plain_number : (v : Float) → T (plain v) → T (number v)
plain_number nan p = absurd p
plain_number (inf s) p = absurd p
plain_number (fin s m e) p = tt

record Target (r : Float) : Type 0 where
  held : T (fits binary64 r)
  real : T (number r)
  most : T (le r 2e9)

root_target : (v : Float) → T (fits binary64 v) → Rooted v → Target (root v)
root_target v t h =
    let a = above_is v h.above_zero in
    let r = root_above v t a in
    record { held = r.0; real = plain_number (root v) r.1; most = subst (λ (z : Float). T (le (root v) z)) root_of_4e18 (root_order v 4e18 t a (unfold fits in tt) tt h.most) }

-- ---- an area that is not below 1e-9: at most 4e18

record Area (a : Float) : Type 0 where
  least : T (le 1e-9 a)
  most : T (le a 4e18)

4e18_is : round binary64 false 4000000000000000000 1 ≡ 4e18
unfolding round
4e18_is = refl

-- a width's size; that of -0 is 0
span_size : (w : Float) → Spans w → num w ≤ 2000000000 * den w
span_size nan p = absurd p.fine
span_size (inf s) p = absurd p.fine
span_size (fin false m e) p = le_trans (le_of_eq (sym (mul-one (m * up e)))) (le→cross (fin false m e) 2e9 tt tt p.below)
span_size (fin true m e) p = none m (up e) (down e) (neg_zero_of m e p.above)
  where
    none : (m u d : ℕ) → m ≡ 0 → m * u ≤ 2000000000 * d
    none m u d h = rw h (omega arith)

product_small : (W H dw dh : ℕ) → W ≤ 2000000000 * dw → H ≤ 2000000000 * dh → W * H * 1 ≤ 4000000000000000000 * (dw * dh)
product_small W H dw dh a b = omega (arith, mul-le-mul a b)

-- a product of finite values is their exact product, rounded once, with some sign
mul_is : (w h : Float) → T (finite w) → T (finite h) → (s : Bool) × (mul binary64 w h ≡ round binary64 s (num w * num h) (den w * den h))
unfolding mul
mul_is nan h p q = absurd p
mul_is (inf s) h p q = absurd p
mul_is (fin s m e) nan p q = absurd q
mul_is (fin s m e) (inf t) p q = absurd q
mul_is (fin s m e) (fin t n d) p q = (unlike s t, refl)

product_area : (w h : Float) → Spans w → Spans h → lt (mul binary64 w h) 1e-9 ≡ false → Area (mul binary64 w h)
product_area w h p q l = let f = mul_is w h p.fine q.fine in go f.0 f.1
  where
    C+ : 0 < den w * den h
    C+ = mul-pos (den_pos w) (den_pos h)

    least_is : (s : Bool) → mul binary64 w h ≡ round binary64 s (num w * num h) (den w * den h) → T (le 1e-9 (mul binary64 w h))
    least_is s e = at_most 1e-9 (mul binary64 w h) tt (rw e (round_number binary64 s (num w * num h) (den w * den h) C+)) l

    go : (s : Bool) → mul binary64 w h ≡ round binary64 s (num w * num h) (den w * den h) → Area (mul binary64 w h)
    go true e = absurd (unfold le in float_le_trans 1e-9 (mul binary64 w h) (fin true 0 (pos 0)) (least_is true e) (rw e (below_zero binary64 (num w * num h) (den w * den h) C+)))
    go false e =
        record {
          least = least_is false e;
          most =
              rw e
              (subst (λ (z : Float). T (le (round binary64 false (num w * num h) (den w * den h)) z)) 4e18_is
              (round_mono binary64 (num w * num h) (den w * den h) 4000000000000000000 1 C+ (lit< tt) (product_small (num w) (num h) (den w) (den h) (span_size w p) (span_size h q))));
        }

-- n lines, as many as 64 bits can say: rounded to a float they are from 1 to 2^64
module _ (n : ℕ) (N : 1 ≤ n) (few : n ≤ 2 ^ 64) where
  abbrev lines : Float
  lines = of_int binary64 (pos n)

  lines_least : T (le one lines)
  unfolding of_int
  lines_least = subst (λ (z : Float). T (le z (round binary64 false n 1))) one_is (round_mono binary64 1 1 n 1 (lit< tt) (lit< tt) (omega arith))

  lines_most : T (le lines 2^64f)
  unfolding of_int
  lines_most = subst (λ (z : Float). T (le (round binary64 false n 1) z)) 2^64_is (round_mono binary64 n 1 (2 ^ 64) 1 (lit< tt) (lit< tt) (omega arith))

  lines+ : T (positive lines)
  lines+ = between one lines 2^64f tt tt lines_least lines_most

  lines≥ : T (nonneg lines)
  lines≥ = nonneg_of_positive lines lines+

  -- ---- a line's share of an area, or of the number of lines in its stead: above 0, and at most 4e18

  tiny_is : round binary64 false 1 (2 ^ 94) ≡ fin false 1 (negsuc 93)
  unfolding round
  tiny_is = refl

  shared : (a : Float) → T (positive a) → num a * den lines * 1 ≤ 4000000000000000000 * (num lines * den a) → 1 * (num lines * den a) ≤ num a * den lines * 2 ^ 94
      → Rooted (div binary64 a lines)
  shared a a+ below over =
      let a≥ = nonneg_of_positive a a+ in
      let is : div binary64 a lines ≡ round binary64 false (num a * den lines) (num lines * den a) = div_at binary64 a lines (num a) (den a) (num lines) (den lines) lines+ (den_pos a) (num_pos lines lines+) (own_value a a≥) (own_value lines lines≥) in
      let C+ : 0 < num lines * den a = mul-pos (num_pos lines lines+) (den_pos a) in
      let m : T (le (div binary64 a lines) 4e18) = rw is (subst (λ (z : Float). T (le (round binary64 false (num a * den lines) (num lines * den a)) z)) 4e18_is (round_mono binary64 (num a * den lines) (num lines * den a) 4000000000000000000 1 C+ (lit< tt) below)) in
      let l : T (le (fin false 1 (negsuc 93)) (div binary64 a lines)) = rw is (subst (λ (z : Float). T (le z (round binary64 false (num a * den lines) (num lines * den a)))) tiny_is (round_mono binary64 1 (2 ^ 94) (num a * den lines) (num lines * den a) (pow_pos 94) C+ over)) in
      record { above_zero = between (fin false 1 (negsuc 93)) (div binary64 a lines) 4e18 tt tt l m; most = m }

  share_most : (A D L E : ℕ) → A * 1 ≤ 4000000000000000000 * D → 1 * E ≤ L * 1 → A * E * 1 ≤ 4000000000000000000 * (L * D)
  share_most A D L E h k = let a : A ≤ 4000000000000000000 * D = omega arith in let e : E ≤ L = omega arith in omega (arith, mul-le-mul a e)

  share_least : (A D L E : ℕ) → 4835703278458517 * D ≤ A * 2 ^ 82 → L * 1 ≤ 2 ^ 64 * E → 1 * (L * D) ≤ A * E * 2 ^ 94
  share_least A D L E h k =
      let d : D ≤ A * 2 ^ 30 = less D (A * 2 ^ 30) (le_trans (mul-le-mul_right D (lit≤ tt)) (le_trans h (same A))) in
      let l : L ≤ 2 ^ 64 * E = omega arith in
      omega (arith, mul-le-mul l d)
    where
      same : (x : ℕ) → x * 2 ^ 82 ≤ 2 ^ 52 * (x * 2 ^ 30)
      same x = omega arith

      less : (x y : ℕ) → 2 ^ 52 * x ≤ 2 ^ 52 * y → x ≤ y
      less x y e = omega arith

  area_shared : (a : Float) → Area a → Rooted (div binary64 a lines)
  area_shared a h =
      let a+ : T (positive a) = between 1e-9 a 4e18 tt tt h.least h.most in
      let a≥ = nonneg_of_positive a a+ in
      shared a a+
      (share_most (num a) (den a) (num lines) (den lines) (le→cross a 4e18 a≥ tt h.most) (le→cross one lines tt lines≥ lines_least))
      (share_least (num a) (den a) (num lines) (den lines) (le→cross 1e-9 a tt a≥ h.least) (le→cross lines 2^64f lines≥ tt lines_most))

  lines_shared : Rooted (div binary64 lines lines)
  lines_shared = shared lines lines+ (below (num lines * den lines)) (over (num lines * den lines))
    where
      below : (p : ℕ) → p * 1 ≤ 4000000000000000000 * p
      below p = omega arith

      over : (p : ℕ) → 1 * p ≤ p * 2 ^ 94
      over p = omega arith

  share_rooted : (e : Extent) → Spans e.width → Spans e.height → Rooted (div binary64 (area_of e n) lines)
  unfolding area_of
  share_rooted e p q = rw 1e-9_is (go (lt (mul binary64 e.width e.height) 1e-9) refl)
    where
      go : (b : Bool) → lt (mul binary64 e.width e.height) 1e-9 ≡ b → Rooted (div binary64 (cond b lines (mul binary64 e.width e.height)) lines)
      go true l = lines_shared
      go false l = area_shared (mul binary64 e.width e.height) (product_area e.width e.height p q l)

  -- ---- their root: at least 1

  lines_rooted : T (positive (root lines)) × T (le one (root lines))
  lines_rooted =
      let held : T (fits binary64 lines) = of_int-fits binary64 (pos n) in
      let a : T (above lines) = above_is lines lines+ in
      let least : T (le one (root lines)) = subst (λ (z : Float). T (le z (root lines))) root_of_1 (root_order one lines (unfold fits in tt) tt held a lines_least) in
      let most : T (le (root lines) 2^32f) =
      subst (λ (z : Float). T (le (root lines) z)) root_of_2^64 (root_order lines 2^64f held a (unfold fits in tt) tt lines_most) in
      (between one (root lines) 2^32f tt tt least most, least)

-- ---- the largest of three: from 1e-6 to 2e9, and at least a thousandth of a width

-- a width over what is at least 1 is at most 2e9
module _ (w s : Float) (p : Spans w) (s+ : T (positive s)) (least : T (le one s)) where
  under : T (le (div binary64 2e9 s) 2e9)
  under =
      let is : div binary64 2e9 s ≡ round binary64 false (2000000000 * den s) (num s * 1) =
      div_at binary64 2e9 s 2000000000 1 (num s) (den s) s+ (lit< tt) (num_pos s s+) (refl, refl) (own_value s (nonneg_of_positive s s+)) in
      let d : 0 < num s * 1 = mul-pos (num_pos s s+) (lit< tt) in
      let o : 2000000000 * den s * 1 ≤ 2000000000 * (num s * 1) = over (num s) (den s) (le→cross one s tt (nonneg_of_positive s s+) least) in
      rw is
      (subst (λ (z : Float). T (le (round binary64 false (2000000000 * den s) (num s * 1)) z)) 2e9_is
      (round_mono binary64 (2000000000 * den s) (num s * 1) 2000000000 1 d (lit< tt) o))
    where
      over : (S D : ℕ) → 1 * D ≤ S * 1 → 2000000000 * D * 1 ≤ 2000000000 * (S * 1)
      over S D h = omega arith

  quotient_target : Target (div binary64 w s)
  quotient_target =
      record {
        held = div-fits binary64 w s;
        real = le_number (div binary64 nought s) (div binary64 w s) (div_mono binary64 nought w s tt p.fine s+ p.above);
        most = float_le_trans (div binary64 w s) (div binary64 2e9 s) 2e9 (div_mono binary64 w 2e9 s p.fine tt s+ p.below) under;
      }

least_target : Target 1e-6
least_target = record { held = unfold fits in tt; real = tt; most = unfold le in tt }

span_number : (w : Float) → Spans w → T (number w)
span_number w p = le_number nought w p.above

module _ (v m : Float) (t : Target v) (p : Spans m) where
  -- the size of a thousand cells across m
  abbrev across : Float
  across = div binary64 m thousand

  abbrev made : Float
  made = greatest_of (greatest_of v across) 1e-6

  across_target : Target across
  across_target = quotient_target m thousand p tt (unfold le in tt)

  inner_target : Target (greatest_of v across)
  inner_target = greatest_one Target v across t across_target

  made_target : Target made
  made_target = greatest_one Target (greatest_of v across) 1e-6 inner_target least_target

  over_inner : T (le (greatest_of v across) made) × T (le 1e-6 made)
  over_inner = greatest_over (greatest_of v across) 1e-6 inner_target.real tt

  over_across : T (le across made)
  over_across = float_le_trans across (greatest_of v across) made (greatest_over v across t.real across_target.real).1 over_inner.0

  made_positive : T (positive made)
  made_positive = between 1e-6 made 2e9 tt tt over_inner.1 made_target.most

  made_sized : Sized 1 made
  made_sized =
      record {
        above = made_positive;
        held = made_target.held;
        least = le→cross 1e-6 made tt (nonneg_of_positive made made_positive) over_inner.1;
        most = le_trans (le_of_eq (sym (mul-one (num made)))) (le→cross made 2e9 (nonneg_of_positive made made_positive) tt made_target.most);
      }

  made_across : (w : Float) → Spans w → T (le w m) → Across w 1 made
  made_across w s l =
      let under : T (le (div binary64 w thousand) across) = div_mono binary64 w m thousand s.fine p.fine tt l in
      record {
        spans = s;
        sized = made_sized;
        times = width_times w made s made_positive (float_le_trans (div binary64 w thousand) across made under over_across) over_inner.1;
      }

  -- a width that is at most m
  largest_across : (w : Float) → Spans w → T (le w m) → Across w 1 (largest v m)
  unfolding largest
  largest_across w s l = rw (thousand_is, 1e-6_is) (made_across w s l)

-- ---- the first size, in either sizing

-- both lengths of a size, after halvings by j
pub record SizedOn (e : Extent) (j : ℕ) (s : Size) : Type 0 where
  pub wide : Across e.width j s.cell_width
  pub high : Across e.height j s.cell_height

side_across : (w s : Float) → Spans w → T (positive s) → T (le one s) → Across w 1 (length_on w s)
unfolding length_on
side_across w s p s+ l = largest_across (div binary64 w s) w (quotient_target w s p s+ l) p w p (le_self w (span_number w p))

pub first_sized : (z : Sizing) (e : Extent) (n : ℕ) → Spans e.width → Spans e.height → 1 ≤ n → n ≤ 2 ^ 64 → SizedOn e 1 (first_size z e n)
unfolding first_size square_side
first_sized Square e n p q N few =
    let v = div binary64 (area_of e n) (of_int binary64 (pos n)) in
    let t : Target (root v) = root_target v (div-fits binary64 (area_of e n) (of_int binary64 (pos n))) (share_rooted n N few e p q) in
    let larger : Float = greatest_of e.width e.height in
    let o = greatest_over e.width e.height (span_number e.width p) (span_number e.height q) in
    let m : Spans larger = greatest_one Spans e.width e.height p q in
    record { wide = largest_across (root v) larger t m e.width p o.0; high = largest_across (root v) larger t m e.height q o.1 }
first_sized Axes e n p q N few =
    let s = root (of_int binary64 (pos n)) in
    let r = lines_rooted n N few in
    record { wide = side_across e.width s p r.0 r.1; high = side_across e.height s q r.0 r.1 }
