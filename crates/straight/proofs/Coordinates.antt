-- Coordinates on an axis of a fit grid: a later one has no lower index, equal ones have one index and are on one side of a boundary, and d has the sign that
-- leads from the start's index to the end's. Assumes nothing.
use mathlib.Core.Path.{◌≡◌, refl, sym, ap, ◌∙◌, subst}
use mathlib.Core.Logic.{◌⊎◌, inl, inr}
use Prim.Native.Nat.{ℕ, zero, suc, ◌+◌, ◌-◌, ◌*◌, ◌^◌, ◌≤◌, ◌<◌}
use native.Mathlib.Nat.{mul-pos, zero-lt-suc}
use native.Mathlib.Omega.{arith}
use mathlib.Core.Bool.{Bool, true, false, true≢false}
use lib.IntN.{ℤ, pos, negsuc}
use lib.Dec.{T, eqb, eqb→eq}
use lib.Pow.{pow-lt}
use lib.Ieee.{Float, nan, inf, fin, binary64, low, up, down, level, round, neg, sum, add, sub, lt, le, eq, fits}
use lib.Ieee.Fits.{up_pos, down_pos, div-fits}
use lib.Ieee.Scale.{finite, round_same}
use lib.Ieee.Positive.{den, den_pos, positive-finite}
use borrow.Author.Tests.{eqb-true, eq-eqb}
use Rattle.numbers.specs.Order.{magnitude_of}
use Rattle.numbers.specs.Away.{round_away}
use Rattle.numbers.proofs.Values.{value_unique}
use Rattle.numbers.proofs.Tests.{holds, le_says, or_right}
use Rattle.numbers.proofs.FloatOrder.{number, plus, minus, le→cross, float_le_trans, at_most, not_under, lt_le, le_number, neg_finite, finite_number}
use Rattle.numbers.proofs.FloatSum.{Rounds, over, short, add_rounds, add_mono}
use Rattle.numbers.proofs.FloatQuotient.{div_mono}
use Rattle.numbers.proofs.FloorLaws.{clamped_mono}
use Rattle.slices.proofs.Laws.{le_or}
use Rattle.grid.specs.declared.Axis.{Axis}
use Rattle.grid.specs.declared.Side.TheVariants.{Above}
use Rattle.grid.specs.Axes.{scaled_on, index_on, near_whole, side_of, side_on}
use Rattle.grid.specs.Domain.{coordinate, size_fits}
use Rattle.grid.proofs.Bools.{and_left, and_right}
use Rattle.grid.proofs.Floats.{size_positive}
use Rattle.sizing.proofs.Constants.{1e9_is, 2e9_is, quarter, quarter_is}
use Rattle.numbers.proofs.FloatFractions as Plain
use Rattle.numbers.proofs.FloatFractions.{first_zero}
use Rattle.turns.specs.Turns.{nought, sign_of}
use Rattle.straight.proofs.Answering.{Keeps, Goes}
use Rattle.straight.proofs.Bounds.{Bounded, Room, Apart, sub_bounded}
use Rattle.straight.proofs.Units.{Units, units_le, parts_neg, den_neg, sub_over, sub_under}

-- ---- the domain

pub coordinate_bounded : (v : Float) → coordinate v ≡ true → Bounded 1000000000 0 v
unfolding coordinate magnitude_of
coordinate_bounded nan h = absurd (unfold le in holds (le nan (round binary64 false 1000000000 1)) h)
coordinate_bounded (inf s) h = absurd (unfold le round in holds (le (inf false) (round binary64 false 1000000000 1)) h)
coordinate_bounded (fin s m e) h =
    let k =
    le_says m e 1953125 (pos 9) (subst (λ (z : Float). T (le (fin false m e) z)) 1e9_is (holds (le (fin false m e) (round binary64 false 1000000000 1)) h)) in
    record { fine = tt; most = omega arith }

pub size_bounded : (v : Float) → size_fits v ≡ true → Bounded 2000000000 0 v
unfolding size_fits
size_bounded v h =
    let lo = round binary64 false 1 4000000 in
    let hi = round binary64 false 2000000000 1 in
    let p = size_positive v h in
    let k =
    Plain.le→cross v (fin false 1953125 (pos 10)) (Plain.nonneg_of_positive v p) tt
    (subst (λ (z : Float). T (le v z)) 2e9_is (holds (le v hi) (and_right (le lo v) (le v hi) h))) in
    record { fine = positive-finite v p; most = omega arith }

pub size_apart : (v : Float) → size_fits v ≡ true → Apart 22 v
unfolding size_fits
size_apart v h =
    let lo = round binary64 false 1 4000000 in
    let hi = round binary64 false 2000000000 1 in
    let p = size_positive v h in
    let k =
    Plain.le→cross quarter v tt (Plain.nonneg_of_positive v p) (subst (λ (z : Float). T (le z v)) quarter_is
    (holds (le lo v) (and_left (le lo v) (le v hi) h))) in
    record { fine = positive-finite v p; least = omega arith }

-- an axis of a fit grid
pub record Fits (a : Axis) : Type 0 where
  pub low : coordinate a.low ≡ true
  pub size : size_fits a.size ≡ true

few : Room binary64 2000000000 0
few = record { digits = omega arith; exponent = omega arith }

module _ (a : Axis) (fit : Fits a) where
  pub distance_bounded : (v : Float) → coordinate v ≡ true → Bounded 2000000000 0 (sub binary64 v a.low)
  distance_bounded v h = sub_bounded binary64 1000000000 1000000000 0 v a.low few (coordinate_bounded v h) (coordinate_bounded a.low fit.low)

  -- ---- a later coordinate has no lower index

  scaled_mono : (x y : Float) → coordinate x ≡ true → coordinate y ≡ true → T (le x y) → T (le (scaled_on a x) (scaled_on a y))
  unfolding scaled_on sub
  scaled_mono x y p q h =
      div_mono binary64 (sub binary64 x a.low) (sub binary64 y a.low) a.size (distance_bounded x p).fine (distance_bounded y q).fine
      (size_positive a.size fit.size)
      (add_mono binary64 x y (neg a.low) (neg_finite a.low (coordinate_bounded a.low fit.low).fine) h)

  pub index_mono : (x y : Float) → coordinate x ≡ true → coordinate y ≡ true → T (le x y) → index_on a x ≤ index_on a y
  unfolding index_on
  index_mono x y p q h = clamped_mono (scaled_on a x) (scaled_on a y) a.count (scaled_mono x y p q h)

-- ---- two values that are at most each other: one value, or two zeros

pub record Zero (v : Float) : Type 0 where
  pub sign : Bool
  pub is : v ≡ fin sign 0 (pos 0)

zero_fits : (s : Bool) (m : ℕ) (e : ℤ) → m ≡ 0 → T (fits binary64 (fin s m e)) → Zero (fin s m e)
unfolding fits
zero_fits s zero (pos zero) z t = record { sign = s; is = refl }
zero_fits s zero (pos (suc k)) z t = absurd (large (2 ^ suc k) (pow-lt (zero-lt-suc k)) (eqb→eq (2 ^ suc k * 1) 1 t))
  where
    large : (w : ℕ) → 1 < w → w * 1 ≡ 1 → ⊥
    large w h k = omega arith
zero_fits s zero (negsuc k) z t = absurd (large (2 ^ suc k) (pow-lt (zero-lt-suc k)) (eqb→eq (1 * 2 ^ suc k) 1 t))
  where
    large : (w : ℕ) → 1 < w → 1 * w ≡ 1 → ⊥
    large w h k = omega arith
zero_fits s (suc m) e z t = absurd (omega arith)

same_value : (x y : Float) → T (fits binary64 x) → T (fits binary64 y) → T (le x y) → T (le y x) → (x ≡ y) ⊎ (Zero x × Zero y)
same_value nan y p q h k = absurd (unfold le in h)
same_value (inf s) nan p q h k = absurd (unfold le in h)
same_value (inf true) (inf true) p q h k = inl refl
same_value (inf true) (inf false) p q h k = absurd (unfold le in k)
same_value (inf false) (inf true) p q h k = absurd (unfold le in h)
same_value (inf false) (inf false) p q h k = inl refl
same_value (inf true) (fin t n d) p q h k = absurd (unfold le in k)
same_value (inf false) (fin t n d) p q h k = absurd (unfold le in h)
same_value (fin s m e) nan p q h k = absurd (unfold le in h)
same_value (fin s m e) (inf true) p q h k = absurd (unfold le in h)
same_value (fin s m e) (inf false) p q h k = absurd (unfold le in k)
same_value (fin true m e) (fin true n d) p q h k =
    let a = le→cross (fin true m e) (fin true n d) tt tt h in
    let b = le→cross (fin true n d) (fin true m e) tt tt k in
    inl (value_unique binary64 (fin true m e) (fin true n d) true (n * up d) (down d) (down_pos d) p q (refl, omega arith) (refl, refl))
same_value (fin false m e) (fin false n d) p q h k =
    let a = le→cross (fin false m e) (fin false n d) tt tt h in
    let b = le→cross (fin false n d) (fin false m e) tt tt k in
    inl (value_unique binary64 (fin false m e) (fin false n d) false (n * up d) (down d) (down_pos d) p q (refl, omega arith) (refl, refl))
same_value (fin true m e) (fin false n d) p q h k =
    let b = le→cross (fin false n d) (fin true m e) tt tt k in
    inr (
      zero_fits true m e (first_zero m (up e * down d) (mul-pos (up_pos e) (down_pos d)) (omega arith)) p,
      zero_fits false n d (first_zero n (up d * down e) (mul-pos (up_pos d) (down_pos e)) (omega arith)) q,
    )
same_value (fin false m e) (fin true n d) p q h k =
    let b = le→cross (fin false m e) (fin true n d) tt tt h in
    inr (
      zero_fits false m e (first_zero m (up e * down d) (mul-pos (up_pos e) (down_pos d)) (omega arith)) p,
      zero_fits true n d (first_zero n (up d * down e) (mul-pos (up_pos d) (down_pos e)) (omega arith)) q,
    )

-- ---- equal coordinates

eq_le : (x y : Float) → eq x y ≡ true → T (le x y)
unfolding le
eq_le x y h = or_right (lt x y) (eq x y) (holds (eq x y) h)

eq_back : (x y : Float) → eq x y ≡ true → eq y x ≡ true
unfolding eq
eq_back nan y h = absurd (true≢false (sym h))
eq_back (inf s) nan h = absurd (true≢false (sym h))
eq_back (inf true) (inf true) h = refl
eq_back (inf true) (inf false) h = h
eq_back (inf false) (inf true) h = h
eq_back (inf false) (inf false) h = refl
eq_back (inf s) (fin t n d) h = absurd (true≢false (sym h))
eq_back (fin s m e) nan h = absurd (true≢false (sym h))
eq_back (fin s m e) (inf t) h = absurd (true≢false (sym h))
eq_back (fin s m e) (fin t n d) h = go s t (m * up e * down d) (n * up d * down e) h
  where
    go : (s t : Bool) (a b : ℕ) → level s a t b ≡ true → level t b s a ≡ true
    go true true a b h = rw (eq-eqb b a (sym (eqb-true a b (and_left (eqb a b) true h))))
    go false false a b h = rw (eq-eqb b a (sym (eqb-true a b (and_left (eqb a b) true h))))
    go true false a b h =
        let p = eqb-true a b (and_left (eqb a b) (eqb a 0) h) in let q = eqb-true a 0 (and_right (eqb a b) (eqb a 0) h) in rw
        (eq-eqb b a (sym p), eq-eqb b 0 (sym p ∙ q))
    go false true a b h =
        let p = eqb-true a b (and_left (eqb a b) (eqb a 0) h) in let q = eqb-true a 0 (and_right (eqb a b) (eqb a 0) h) in rw
        (eq-eqb b a (sym p), eq-eqb b 0 (sym p ∙ q))

-- two zeros are both at a boundary
zero_side : (v : Float) → Zero v → side_of v ≡ Above
zero_side v z = ap side_of z.is ∙ go z.sign
  where
    go : (s : Bool) → side_of (fin s 0 (pos 0)) ≡ Above
    go true = unfold side_of near_whole magnitude_of round_away sub add neg sum round le lt eq in refl
    go false = unfold side_of near_whole magnitude_of round_away sub add neg sum round le lt eq in refl

side_same : (x y : Float) → (x ≡ y) ⊎ (Zero x × Zero y) → side_of x ≡ side_of y
side_same x y (inl e) = ap side_of e
side_same x y (inr z) = zero_side x z.0 ∙ sym (zero_side y z.1)

module _ (a : Axis) (fit : Fits a) (x y : Float) (p : coordinate x ≡ true) (q : coordinate y ≡ true) where
  pub same_index : T (le x y) → T (le y x) → index_on a x ≡ index_on a y
  same_index h k = omega (arith, index_mono a fit x y p q h, index_mono a fit y x q p k)

  same_side : T (le x y) → T (le y x) → side_on a x ≡ side_on a y
  unfolding side_on
  same_side h k =
      side_same (scaled_on a x) (scaled_on a y)
      (same_value (scaled_on a x) (scaled_on a y) (scaled_fits x) (scaled_fits y) (scaled_mono a fit x y p q h) (scaled_mono a fit y x q p k))
    where
      scaled_fits : (v : Float) → T (fits binary64 (scaled_on a v))
      scaled_fits v = unfold scaled_on in div-fits binary64 (sub binary64 v a.low) a.size

-- ---- the difference of two values

smallest : Float
smallest = round binary64 false 1 (2 ^ low binary64)

smallest_is : smallest ≡ fin false 1 (negsuc 1073)
unfolding smallest round
smallest_is = refl

over_zero : (d : Float) → T (le smallest d) → lt nought d ≡ true
over_zero d h = go (lt nought d) refl
  where
    tiny : T (le (fin false 1 (negsuc 1073)) d)
    tiny = subst (λ (z : Float). T (le z d)) smallest_is h

    go : (b : Bool) → lt nought d ≡ b → b ≡ true
    go true e = refl
    go false e =
        absurd (unfold le in float_le_trans (fin false 1 (negsuc 1073)) d nought tiny (at_most d nought (le_number (fin false 1 (negsuc 1073)) d tiny) tt e))

under_zero : (d : Float) → T (number d) → T (le d (neg smallest)) → lt d nought ≡ true
under_zero d n h = go (lt d nought) refl
  where
    tiny : T (le d (fin true 1 (negsuc 1073)))
    tiny = unfold neg in subst (λ (z : Float). T (le d (neg z))) smallest_is h

    go : (b : Bool) → lt d nought ≡ b → b ≡ true
    go true e = refl
    go false e = absurd (unfold le in float_le_trans nought d (fin true 1 (negsuc 1073)) (at_most nought d tt n e) tiny)

nothing : (s : Bool) (a c : ℕ) → 0 < c → a ≡ 0 → eq (round binary64 s a c) nought ≡ true
nothing s a c C h = ap (λ (z : Float). eq z nought) (round_same binary64 s a c 0 1 C (zero-lt-suc 0) (omega arith)) ∙ go s
  where
    go : (s : Bool) → eq (round binary64 s 0 1) nought ≡ true
    go true = unfold round eq in refl
    go false = unfold round eq in refl

-- equal values differ by 0
no_difference : (x y : Float) → T (finite x) → T (finite y) → T (le x y) → T (le y x) → eq (sub binary64 y x) nought ≡ true
unfolding sub
no_difference x y p q h k =
    let n = parts_neg x in
    let d = den_neg x in
    let a = le→cross x y p q h in
    let b = le→cross y x q p k in
    let P = plus y * den (neg x) + plus (neg x) * den y in
    let N = minus y * den (neg x) + minus (neg x) * den y in
    let same : P ≡ N =
    ap (λ (z : ℕ). plus y * z + plus (neg x) * den y) d ∙ ap (λ (z : ℕ). plus y * den x + z * den y) n.0 ∙ omega (arith, a, b)
    ∙ sym (ap (λ (z : ℕ). minus y * z + minus (neg x) * den y) d ∙ ap (λ (z : ℕ). minus y * den x + z * den y) n.1) in
    go P N (den y * den (neg x)) (mul-pos (den_pos y) (den_pos (neg x))) same (add_rounds binary64 y (neg x) q (neg_finite x p))
  where
    go : (P N C : ℕ) → 0 < C → P ≡ N → Rounds binary64 (add binary64 y (neg x)) P N C → eq (add binary64 y (neg x)) nought ≡ true
    go P N C pC e (over l r) = ap (λ (z : Float). eq z nought) r ∙ nothing false (P - N) C pC (omega arith)
    go P N C pC e (short l r) = ap (λ (z : Float). eq z nought) r ∙ nothing true (N - P) C pC (omega arith)

-- ---- what the laws of the walk ask

module _ (a : Axis) (fit : Fits a) (start end : Float) (p : coordinate start ≡ true) (q : coordinate end ≡ true) where
  pub keeps : eq start end ≡ true → Keeps a start end
  keeps h =
      let u = eq_le start end h in
      let w = eq_le end start (eq_back start end h) in
      record {
        none = no_difference start end (coordinate_bounded start p).fine (coordinate_bounded end q).fine u w;
        index = same_index a fit start end p q u w;
        side = same_side a fit start end p q u w;
      }

  d : Float
  d = sub binary64 end start

  d_number : T (number d)
  unfolding d
  d_number = finite_number d (sub_bounded binary64 1000000000 1000000000 0 end start few (coordinate_bounded end q) (coordinate_bounded start p)).fine

  not_zero_up : lt nought d ≡ true → eq d nought ≡ true → ⊥
  not_zero_up h k = true≢false (sym h ∙ not_under d nought (eq_le d nought k))

  not_zero_down : lt d nought ≡ true → eq d nought ≡ true → ⊥
  not_zero_down h k = true≢false (sym h ∙ not_under nought d (eq_le nought d (eq_back d nought k)))

  module _ (u : Units binary64 start) (w : Units binary64 end) where
    upward : u.more + w.less < w.more + u.less → Goes a start end
    unfolding sign_of smallest d
    upward l =
        let h : lt nought d ≡ true = over_zero d (sub_over binary64 w u 1 (zero-lt-suc 0) (omega arith)) in
        let m = index_mono a fit start end p q (units_le binary64 u w (omega arith)) in
        record { up = true; n = index_on a end - index_on a start; ahead = omega arith; sign = λ z. rw h; still = λ z. absurd (not_zero_up h z) }

    downward : w.more + u.less < u.more + w.less → Goes a start end
    unfolding sign_of smallest d
    downward l =
        let h : lt d nought ≡ true = under_zero d d_number (sub_under binary64 w u 1 (zero-lt-suc 0) (omega arith)) in
        let g : lt nought d ≡ false = not_under d nought (lt_le d nought h) in
        let m = index_mono a fit end start q p (units_le binary64 w u (omega arith)) in
        record { up = false; n = index_on a start - index_on a end; ahead = omega arith; sign = λ z. rw (g, h); still = λ z. absurd (not_zero_down h z) }

    staying : u.more + w.less ≡ w.more + u.less → Goes a start end
    staying e =
        let s = same_index a fit start end p q (units_le binary64 u w (omega arith)) (units_le binary64 w u (omega arith)) in
        record { up = true; n = 0; ahead = omega arith; sign = λ z. absurd (omega arith); still = λ z. s }

    pub goes : Goes a start end
    goes = go (le_or (u.more + w.less) (w.more + u.less)) (le_or (w.more + u.less) (u.more + w.less))
      where
        go : (u.more + w.less ≤ w.more + u.less) ⊎ (w.more + u.less < u.more + w.less)
            → (w.more + u.less ≤ u.more + w.less) ⊎ (u.more + w.less < w.more + u.less) → Goes a start end
        go (inr l) k = downward l
        go (inl l) (inr k) = upward k
        go (inl l) (inl k) = staying (omega arith)
