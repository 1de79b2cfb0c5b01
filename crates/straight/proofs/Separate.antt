-- Two coordinates with different indices are not nearer than 2 ^ -200. For where two values of the format are nearer, both are tiny; and a tiny coordinate
-- less min is -min, or so small that its index is 0. Assumes nothing.
use mathlib.Core.Path.{◌≡◌, refl, sym, ap, ◌∙◌, subst}
use mathlib.Core.Logic.{◌⊎◌, inl, inr}
use Prim.Native.Nat.{ℕ, suc, ◌+◌, ◌-◌, ◌*◌, ◌^◌, ◌≤◌, ◌<◌}
use native.Mathlib.Nat.{le_trans, le_of_eq, le_of_lt, mul_assoc, mul-le-mul, mul-le-mul_right, one-mul, suc-mul, zero-lt-suc, mul-pos, lt_of_mul-lt-mul_right}
use native.Mathlib.Omega.{arith}
use mathlib.Core.Bool.{Bool, true, false}
use lib.IntN.{pos, negsuc}
use lib.Dec.{T, lit≤}
use lib.Pow.{pow-add, pow_pos, pow_mono}
use lib.Ieee.{Float, fin, Format, binary64, prec, low, up, down, round, neg, sub, div, le}
use lib.Ieee.Digits.{back}
use lib.Ieee.Order.{round_mono}
use lib.Ieee.Positive.{num, den}
use lib.Ieee.Scale.{finite}
use Rattle.numbers.specs.Floor.{clamped_floor}
use Rattle.numbers.proofs.FloatOrder.{plus, minus, le→cross, float_le_trans}
use Rattle.numbers.proofs.FloatSum.{Rounds, over, short, zero_le, below_zero}
use Rattle.numbers.proofs.FloatQuotient.{div_is, div_mono, num_pos}
use Rattle.numbers.proofs.FloorLaws.{clamped_mono}
use Rattle.slices.proofs.Laws.{le_or}
use Rattle.grid.specs.declared.Axis.{Axis}
use Rattle.grid.specs.Axes.{scaled_on, index_on}
use Rattle.grid.specs.Domain.{coordinate}
use Rattle.grid.proofs.Floats.{size_positive}
use Rattle.straight.proofs.Bounds.{Apart, parts_le}
use Rattle.straight.proofs.Units.{Units, units_le, sub_units, sub_over, sub_under}
use Rattle.straight.proofs.Steady.{alike}
use Rattle.straight.proofs.Coordinates.{Fits, distance_bounded, size_apart, same_index}

-- ---- multiples of G = 2 ^ g units, or few units

record Multiple (G k : ℕ) : Type 0 where
  times : ℕ
  is : k ≡ times * G

none : (G : ℕ) → Multiple G 0
none G = record { times = 0; is = omega arith }

both : {G j k : ℕ} → Multiple G j → Multiple G k → Multiple G (j + k)
both {G} {j} {k} a b = record { times = a.times + b.times; is = joined a.times b.times a.is b.is }
  where
    joined : (x y : ℕ) → j ≡ x * G → k ≡ y * G → j + k ≡ (x + y) * G
    joined x y p q = omega arith

-- two different multiples
next : {G j k : ℕ} → Multiple G j → Multiple G k → j < k → j + G ≤ k
next {G} {j} {k} a b h =
    let l : a.times < b.times = lt_of_mul-lt-mul_right G (same (a.times * G) (b.times * G) a.is b.is) in
    go a.times b.times a.is b.is (mul-le-mul_right G l) (suc-mul a.times G)
  where
    same : (x y : ℕ) → j ≡ x → k ≡ y → x < y
    same x y p q = omega arith

    go : (x y : ℕ) → j ≡ x * G → k ≡ y * G → suc x * G ≤ y * G → suc x * G ≡ x * G + G → j + G ≤ k
    go x y p q l e = omega arith

module _ (f : Format) (g : ℕ) {v : Float} (u : Units f v) where
  whole : Multiple (2 ^ g) (u.more + u.less) → Multiple (2 ^ g) u.more × Multiple (2 ^ g) u.less
  whole m = go u.one_sign
    where
      go : (u.less ≡ 0) ⊎ (u.more ≡ 0) → Multiple (2 ^ g) u.more × Multiple (2 ^ g) u.less
      go (inl e) = (subst (Multiple (2 ^ g)) (first u.more u.less e) m, subst (Multiple (2 ^ g)) (sym e) (none (2 ^ g)))
        where
          first : (x y : ℕ) → y ≡ 0 → x + y ≡ x
          first x y e = omega arith
      go (inr e) = (subst (Multiple (2 ^ g)) (sym e) (none (2 ^ g)), subst (Multiple (2 ^ g)) (last u.more u.less e) m)
        where
          last : (x y : ℕ) → x ≡ 0 → x + y ≡ y
          last x y e = omega arith

  -- a value's last digit is at 2 ^ g or above, or the value is small
  coarse : (Multiple (2 ^ g) u.more × Multiple (2 ^ g) u.less) ⊎ (u.more + u.less ≤ 2 ^ prec f * 2 ^ g)
  coarse = go (le_or g u.places)
    where
      go : (g ≤ u.places) ⊎ (u.places < g) → (Multiple (2 ^ g) u.more × Multiple (2 ^ g) u.less) ⊎ (u.more + u.less ≤ 2 ^ prec f * 2 ^ g)
      go (inl l) =
          inl (whole (record {
            times = u.digits * 2 ^ (u.places - g);
            is =
                u.size_is ∙ ap (λ (x : ℕ). u.digits * x) (ap (λ (x : ℕ). 2 ^ x) (sym (back u.places g l)) ∙ pow-add 2 (u.places - g) g) ∙ sym
                (mul_assoc u.digits (2 ^ (u.places - g)) (2 ^ g));
          }))
      go (inr l) = inr (le_trans (le_of_eq u.size_is) (mul-le-mul (le_of_lt u.few) (pow_mono (le_of_lt l))))

-- ---- two values: G units apart, or equal, or both small

data Place (x y G s t M : ℕ) : Type 0 where
  below : x + G ≤ y → Place x y G s t M
  above : y + G ≤ x → Place x y G s t M
  equal : x ≡ y → Place x y G s t M
  small : s ≤ 2 * M → t ≤ 2 * M → Place x y G s t M

-- one is small, and the other is not: a - b and c - d are the two, in units
lone : (a b c d G M : ℕ) → G ≤ M → a + b ≤ M → (d ≡ 0) ⊎ (c ≡ 0) → Place (a + d) (c + b) G (a + b) (c + d) M
lone a b c d G M g h (inl e) = go (le_or (c + d) (2 * M))
  where
    go : (c + d ≤ 2 * M) ⊎ (2 * M < c + d) → Place (a + d) (c + b) G (a + b) (c + d) M
    go (inl l) = small (omega arith) l
    go (inr l) = below (omega arith)
lone a b c d G M g h (inr e) = go (le_or (c + d) (2 * M))
  where
    go : (c + d ≤ 2 * M) ⊎ (2 * M < c + d) → Place (a + d) (c + b) G (a + b) (c + d) M
    go (inl l) = small (omega arith) l
    go (inr l) = above (omega arith)

turned : {x y G s t M : ℕ} → Place x y G s t M → Place y x G t s M
turned (below h) = above h
turned (above h) = below h
turned (equal e) = equal (sym e)
turned (small h k) = small k h

module _ (f : Format) (g : ℕ) {v w : Float} (u : Units f v) (t : Units f w) where
  abbrev Apart' : Type 0
  Apart' = Place (u.more + t.less) (t.more + u.less) (2 ^ g) (u.more + u.less) (t.more + t.less) (2 ^ prec f * 2 ^ g)

  placed : Apart'
  placed = go (coarse f g u) (coarse f g t)
    where
      within : 2 ^ g ≤ 2 ^ prec f * 2 ^ g
      within = le_trans (le_of_eq (sym (one-mul (2 ^ g)))) (mul-le-mul_right (2 ^ g) (pow_pos (prec f)))

      ordered : Multiple (2 ^ g) (u.more + t.less) → Multiple (2 ^ g) (t.more + u.less)
          → (u.more + t.less ≤ t.more + u.less) ⊎ (t.more + u.less < u.more + t.less) → (t.more + u.less ≤ u.more + t.less) ⊎
          (u.more + t.less < t.more + u.less) → Apart'
      ordered a b (inr h) k = above (next b a h)
      ordered a b (inl h) (inr k) = below (next a b k)
      ordered a b (inl h) (inl k) = equal (omega arith)

      go : (Multiple (2 ^ g) u.more × Multiple (2 ^ g) u.less) ⊎ (u.more + u.less ≤ 2 ^ prec f * 2 ^ g)
          → (Multiple (2 ^ g) t.more × Multiple (2 ^ g) t.less) ⊎ (t.more + t.less ≤ 2 ^ prec f * 2 ^ g) → Apart'
      go (inr h) k = lone u.more u.less t.more t.less (2 ^ g) (2 ^ prec f * 2 ^ g) within h t.one_sign
      go (inl h) (inr k) = turned (lone t.more t.less u.more u.less (2 ^ g) (2 ^ prec f * 2 ^ g) within k u.one_sign)
      go (inl h) (inl k) =
          ordered (both h.0 k.1) (both k.0 h.1) (le_or (u.more + t.less) (t.more + u.less)) (le_or (t.more + u.less) (u.more + t.less))

-- ---- a small coordinate less min

-- where min has far more units than the coordinates, the differences are one value
module _ (f : Format) {x y m : Float} (u : Units f x) (w : Units f y) (z : Units f m) (t : ℕ) (few : u.more + u.less ≤ t) (few' : w.more + w.less ≤ t)
    (large : 8 * (2 ^ (prec f - 1) * t) + t ≤ z.more + z.less) (normal : 2 ^ prec f + t ≤ z.more + z.less) where
  more_than : t < z.more + z.less
  more_than = go (2 ^ prec f) (pow_pos (prec f)) normal
    where
      go : (p : ℕ) → 0 < p → p + t ≤ z.more + z.less → t < z.more + z.less
      go p h k = omega arith

  rounded : (s : Bool) (A B : ℕ) → A ≤ z.more + z.less + t → z.more + z.less ≤ A + t → B ≤ z.more + z.less + t → z.more + z.less ≤ B + t
      → round f s A (2 ^ low f) ≡ round f s B (2 ^ low f)
  rounded s A B = alike f A B (z.more + z.less) t z.digits z.places z.size_is z.few z.room large normal s

  unchanged : sub f x m ≡ sub f y m
  unchanged = go z.one_sign (sub_units f u z) (sub_units f w z)
    where
      go : (z.less ≡ 0) ⊎ (z.more ≡ 0) → Rounds f (sub f x m) (u.more + z.less) (u.less + z.more) (2 ^ low f)
          → Rounds f (sub f y m) (w.more + z.less) (w.less + z.more) (2 ^ low f) → sub f x m ≡ sub f y m
      go (inl e) (short l k) (short l' k') =
          k ∙ rounded true (u.less + z.more - (u.more + z.less)) (w.less + z.more - (w.more + z.less)) (omega (arith, few)) (omega (arith, few))
          (omega (arith, few')) (omega (arith, few')) ∙ sym k'
      go (inr e) (over l k) (over l' k') =
          k ∙ rounded false (u.more + z.less - (u.less + z.more)) (w.more + z.less - (w.less + z.more)) (omega (arith, few)) (omega (arith, few))
          (omega (arith, few')) (omega (arith, few')) ∙ sym k'
      go (inl e) (over l k) r = absurd (omega (arith, few, more_than))
      go (inl e) (short l k) (over l' k') = absurd (omega (arith, few', more_than))
      go (inr e) (short l k) r = absurd (omega (arith, few, more_than))
      go (inr e) (over l k) (short l' k') = absurd (omega (arith, few', more_than))

-- where both have few, the difference is at most W units
difference_small : (f : Format) {x m : Float} (u : Units f x) (z : Units f m) (W : ℕ) → u.more + z.less ≤ W → T (le (sub f x m) (round f false W (2 ^ low f)))
difference_small f {x} {m} u z W h = go (sub_units f u z)
  where
    go : Rounds f (sub f x m) (u.more + z.less) (u.less + z.more) (2 ^ low f) → T (le (sub f x m) (round f false W (2 ^ low f)))
    go (over l k) =
        rw k
        (round_mono f (u.more + z.less - (u.less + z.more)) (2 ^ low f) W (2 ^ low f) (pow_pos (low f)) (pow_pos (low f))
        (mul-le-mul_right (2 ^ low f) (omega arith)))
    go (short l k) =
        rw k
        (float_le_trans (round f true (u.less + z.more - (u.more + z.less)) (2 ^ low f)) (fin true 0 (pos 0)) (round f false W (2 ^ low f))
        (below_zero f (u.less + z.more - (u.more + z.less)) (2 ^ low f) (pow_pos (low f)))
        (float_le_trans (fin true 0 (pos 0)) (fin false 0 (pos 0)) (round f false W (2 ^ low f)) (unfold le in tt) (zero_le f W (2 ^ low f) (pow_pos (low f)))))

-- 2 ^ -24, and a half
abbrev speck : Float
speck = fin false 1 (negsuc 23)

abbrev half : Float
half = fin false 1 (negsuc 0)

speck_is : round binary64 false (2 ^ 1050) (2 ^ low binary64) ≡ speck
unfolding round
speck_is = refl

half_is : round binary64 false 1 2 ≡ half
unfolding round
half_is = refl

module _ (a : Axis) (fit : Fits a) where
  speck_half : T (le (div binary64 speck a.size) half)
  speck_half =
      let s = size_positive a.size fit.size in
      let l = (size_apart a.size fit.size).least in
      rw (div_is binary64 false 1 (negsuc 23) a.size s, ← half_is)
      (round_mono binary64 (1 * up (negsuc 23) * den a.size) (num a.size * down (negsuc 23)) 1 2 (mul-pos (num_pos a.size s) (pow_pos 24))
      (zero-lt-suc 1) (omega arith))

  -- a coordinate less than a speck above min has the index 0
  first_index : (v : Float) → coordinate v ≡ true → T (le (sub binary64 v a.low) speck) → index_on a v ≡ 0
  unfolding index_on scaled_on
  first_index v p h =
      let s = size_positive a.size fit.size in
      let k = float_le_trans (scaled_on a v) (div binary64 speck a.size) half
      (div_mono binary64 (sub binary64 v a.low) speck a.size (distance_bounded a fit v p).fine tt s h) speck_half in
      at_most_none (clamped_mono (scaled_on a v) half a.count k)
    where
      at_most_none : clamped_floor (scaled_on a v) a.count ≤ clamped_floor half a.count → clamped_floor (scaled_on a v) a.count ≡ 0
      at_most_none h = unfold clamped_floor in omega (arith, h)

-- ---- not nearer than 2 ^ -200

-- 2 ^ -200
abbrev gap : Float
gap = fin false 1 (negsuc 199)

gap_is : round binary64 false (2 ^ 874) (2 ^ low binary64) ≡ gap
unfolding round
gap_is = refl

-- what is that far from 0
apart_over : (d : Float) → T (finite d) → T (le gap d) → Apart 200 d
apart_over d t h = record { fine = t; least = go (2 ^ 200) (plus d) (minus d) (num d) (den d) (parts_le d).0 (le→cross gap d tt t h) }
  where
    go : (w p n m c : ℕ) → p ≤ m → 1 * 1 * c + n * w ≤ p * w + 0 * c → c ≤ w * m
    go w p n m c a b = omega (arith, mul-le-mul_right w a)

apart_under : (d : Float) → T (finite d) → T (le d (neg gap)) → Apart 200 d
unfolding neg
apart_under d t h = record { fine = t; least = go (2 ^ 200) (plus d) (minus d) (num d) (den d) (parts_le d).1 (le→cross d (neg gap) t tt h) }
  where
    go : (w p n m c : ℕ) → n ≤ m → p * w + 1 * 1 * c ≤ 0 * c + n * w → c ≤ w * m
    go w p n m c a b = omega (arith, mul-le-mul_right w a)

module _ (a : Axis) (fit : Fits a) (start end : Float) (p : coordinate start ≡ true) (q : coordinate end ≡ true)
    (u : Units binary64 start) (w : Units binary64 end) (m : Units binary64 a.low) where
  t : ℕ
  t = 2 * (2 ^ 53 * 2 ^ 874)

  -- both small: min is large, or small too
  small_same : u.more + u.less ≤ t → w.more + w.less ≤ t → index_on a start ≡ index_on a end
  unfolding t index_on scaled_on
  small_same h k = go (le_or (2 ^ 984) (m.more + m.less))
    where
      least : (x y z b c all : ℕ) → x + y ≤ b → z ≤ c → b + c ≤ all → x + z ≤ all
      least x y z b c all h k l = omega arith

      lesser : (x y W : ℕ) → x + y < W → y ≤ W
      lesser x y W h = omega arith

      go : (2 ^ 984 ≤ m.more + m.less) ⊎ (m.more + m.less < 2 ^ 984) → index_on a start ≡ index_on a end
      go (inl l) =
          ap (λ (z : Float). clamped_floor (div binary64 z a.size) a.count)
          (unchanged binary64 u w m t h k (le_trans (lit≤ tt) l) (le_trans (lit≤ tt) l))
      go (inr l) =
          let s =
          subst (λ (z : Float). T (le (sub binary64 start a.low) z)) speck_is
          (difference_small binary64 u m (2 ^ 1050) (least u.more u.less m.less t (2 ^ 984) (2 ^ 1050) h (lesser m.more m.less (2 ^ 984) l)
          (lit≤ tt))) in
          let e =
          subst (λ (z : Float). T (le (sub binary64 end a.low) z)) speck_is
          (difference_small binary64 w m (2 ^ 1050) (least w.more w.less m.less t (2 ^ 984) (2 ^ 1050) k (lesser m.more m.less (2 ^ 984) l)
          (lit≤ tt))) in
          first_index a fit start p s ∙ sym (first_index a fit end q e)

  pub apart_or_same : T (finite (sub binary64 end start)) → Apart 200 (sub binary64 end start) ⊎ (index_on a start ≡ index_on a end)
  unfolding t
  apart_or_same fine = go (placed binary64 874 u w)
    where
      swapped : (x y z w g : ℕ) → x + w + g ≤ z + y → w + x + g ≤ z + y
      swapped x y z w g h = omega arith

      swapped' : (x y z w g : ℕ) → z + y + g ≤ x + w → z + y + g ≤ w + x
      swapped' x y z w g h = omega arith

      go : Place (u.more + w.less) (w.more + u.less) (2 ^ 874) (u.more + u.less) (w.more + w.less) (2 ^ 53 * 2 ^ 874)
          → Apart 200 (sub binary64 end start) ⊎ (index_on a start ≡ index_on a end)
      go (below h) =
          inl (apart_over (sub binary64 end start) fine (subst (λ (z : Float). T (le z (sub binary64 end start))) gap_is
          (sub_over binary64 w u (2 ^ 874) (pow_pos 874) (swapped u.more u.less w.more w.less (2 ^ 874) h))))
      go (above h) =
          inl (apart_under (sub binary64 end start) fine (subst (λ (z : Float). T (le (sub binary64 end start) (neg z))) gap_is
          (sub_under binary64 w u (2 ^ 874) (pow_pos 874) (swapped' u.more u.less w.more w.less (2 ^ 874) h))))
      go (equal e) = inr (same_index a fit start end p q (units_le binary64 u w (le_of_eq e)) (units_le binary64 w u (le_of_eq (sym e))))
      go (small h k) = inr (small_same h k)
