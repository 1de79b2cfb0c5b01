-- Which coordinates pass the guard: every one between the low side of an axis and a high side that lies at most 4,004 cells away, as a build's grid has it.
-- So a line between the sides of such a grid passes. Assumes nothing.
use mathlib.Core.Path.{◌≡◌, refl, sym, ap, ◌∙◌, subst}
use mathlib.Core.Logic.{inl, inr}
use mathlib.Core.Bool.{true, false}
use Prim.Native.Nat.{ℕ, zero, suc, ◌+◌, ◌-◌, ◌*◌, ◌^◌, ◌≤◌, ◌<◌}
use native.Mathlib.Nat.{le_trans, le_of_eq, le_of_lt, mul_assoc, mul-one, one-mul, mul-le-mul_right, le_of_mul-le-mul_right, mul-lt-mul_of_pos_right, lt_of_mul-lt-mul_right, mul-pos, lt_irrefl}
use native.Mathlib.Omega.{arith}
use lib.IntN.{ℤ, pos, negsuc}
use lib.Dec.{T, ltb→lt, lt→ltb, lit≤, lit<}
use lib.Pow.{pow_pos, pow-add}
use lib.Ieee.{Float, nan, inf, fin, Format, binary64, prec, emax, up, down, low, fits, round, neg, add, sub, div, le, lt}
use lib.Ieee.Exact.{HasValue, round_exact}
use lib.Ieee.Fits.{down_pos, round-fits}
use lib.Ieee.Order.{round_mono}
use lib.Ieee.Back.{round_whole}
use lib.Ieee.Scale.{finite, grid}
use lib.Ieee.Positive.{num, den, den_pos, positive, value→cross, positive_of_value}
use lib.Ieee.Bits.{is_true}
use Rattle.slices.proofs.Laws.{le_or}
use Rattle.numbers.proofs.Values.{fits_says, pow_le_back, round_back}
use Rattle.numbers.proofs.FloatOrder.{plus, minus, Cross}
use Rattle.numbers.proofs.FloatOrder as signed
use Rattle.numbers.proofs.FloatQuotient.{num_pos}
use Rattle.numbers.proofs.FloatFractions.{nonneg, nonneg_of_value, nonneg_of_positive, own_value, le→cross, values_of_le, add_is, div_own, div_at, round_value, clear, round_clear, clear_nonneg, finite_under, nonneg_under}
use Rattle.grid.specs.declared.Axis.{Axis}
use Rattle.grid.specs.declared.Grid.{Grid}
use Rattle.grid.specs.declared.Segment.{Segment}
use Rattle.grid.specs.Axes.{x_axis, y_axis}
use Rattle.grid.proofs.Bools.{and_both}
use Rattle.cover.specs.Fine.{unit_on, units_on, limit, near_on}
use Rattle.cover.specs.Covering.{end_passes, passes}
use Rattle.cover.proofs.Offsets.{gap, Apart, sub_is, apart_of, none_over, none, minus_over}
use Rattle.cover.proofs.Guarding.{lt_finite, lt→cross, inf_out}

-- ---- the test, by fractions

cross→lt : (x : Float) → T (nonneg x) → num x < 4293918720 * den x → T (lt x limit)
unfolding lt
cross→lt nan c h = absurd c
cross→lt (inf s) c h = absurd c
cross→lt (fin true m e) c h = absurd c
cross→lt (fin false m e) c h = lt→ltb (m * up e * 1) (4095 * 1048576 * down e) (go (m * up e) (down e) h)
  where
    go : (x d : ℕ) → x < 4293918720 * d → x * 1 < 4095 * 1048576 * d
    go x d k = omega arith

-- what is not above zero passes
minus_below : (x : Float) → T (clear x) → T (lt (neg x) limit)
unfolding neg lt
minus_below nan c = absurd c
minus_below (inf true) c = absurd c
minus_below (inf false) c = tt
minus_below (fin true m e) c = absurd c
minus_below (fin false m e) c = lt→ltb 0 (m * up e * 1 + 4095 * 1048576 * down e) (some (m * up e * 1) (down e) (down_pos e))
  where
    some : (x d : ℕ) → 0 < d → 0 < x + 4095 * 1048576 * d
    some x d h = omega arith

module _ (f : Format) (d : Float) (q : T (positive d)) where
  minus_in : T (lt (div f (fin true 0 (pos 0)) d) limit)
  minus_in = rw (minus_over f d q) (minus_below (round f false (0 * 1 * den d) (num d * 1)) (round_clear f (0 * 1 * den d) (num d * 1)))

  zero_in : T (lt (div f (fin false 0 (pos 0)) d) limit)
  zero_in = rw (none_over f d q) (cross→lt (fin false 0 (pos 0)) tt (lit< tt))

  -- the exact distance in place of the computed one, and back
  to_round : (m x : Float) (a c : ℕ) → 0 < c → Apart x m a c → T (lt (div f (sub f x m) d) limit) → T (lt (div f (round f false a c) d) limit)
  to_round m x a c C p h = elim (sub_is f x m a c C p) [
    | inl e ↦ subst (λ (z : Float). T (lt (div f z d) limit)) e h
    | inr k ↦ rw (k.1, none f c C) zero_in
  ]

  of_round : (m x : Float) (a c : ℕ) → 0 < c → Apart x m a c → T (lt (div f (round f false a c) d) limit) → T (lt (div f (sub f x m) d) limit)
  of_round m x a c C p h = elim (sub_is f x m a c C p) [
    | inl e ↦ subst (λ (z : Float). T (lt (div f z d) limit)) (sym e) h
    | inr k ↦ subst (λ (z : Float). T (lt (div f z d) limit)) (sym k.0) minus_in
  ]

  -- the quotient of a rounded distance
  quotient : (a c : ℕ) → T (finite (round f false a c)) → div f (round f false a c) d ≡ round f false (grid f a c * den d) (num d * 2 ^ low f)
  quotient a c t =
      div_at f (round f false a c) d (grid f a c) (2 ^ low f) (num d) (den d) q (pow_pos (low f)) (num_pos d q) (round_value f a c t) (own_value d (nonneg_of_positive d q))

  over : 0 < num d * 2 ^ low f
  over = mul-pos (num_pos d q) (pow_pos (low f))

  -- a smaller distance passes where a larger one does
  module _ (a c a' c' : ℕ) (C : 0 < c) (C' : 0 < c') (h : a * c' ≤ a' * c) (t : T (lt (div f (round f false a' c') d) limit)) where
    abbrev X : Float
    X = round f false a c

    abbrev Y : Float
    Y = round f false a' c'

    Y_fine : T (finite Y)
    Y_fine = inf_out f Y d (round_clear f a' c') q t

    Y+ : T (nonneg Y)
    Y+ = nonneg_of_value Y (grid f a' c') (2 ^ low f) (round_value f a' c' Y_fine)

    X≤Y : T (le X Y)
    X≤Y = round_mono f a c a' c' C C' h

    X_fine : T (finite X)
    X_fine = finite_under f a c Y C Y+ X≤Y

    grids : grid f a c ≤ grid f a' c'
    grids =
        let k : grid f a c * 2 ^ low f ≤ grid f a' c' * 2 ^ low f = values_of_le X Y (grid f a c) (2 ^ low f) (grid f a' c') (2 ^ low f) (round_value f a c X_fine) (round_value f a' c' Y_fine) X≤Y in
        le_of_mul-le-mul_right k (pow_pos (low f))

    abbrev DX : Float
    DX = round f false (grid f a c * den d) (num d * 2 ^ low f)

    abbrev DY : Float
    DY = round f false (grid f a' c' * den d) (num d * 2 ^ low f)

    DY_in : T (lt DY limit)
    DY_in = rw (quotient a' c' Y_fine) at t

    DY+ : T (nonneg DY)
    DY+ = lt_finite DY (round_clear f (grid f a' c' * den d) (num d * 2 ^ low f)) DY_in

    DX≤DY : T (le DX DY)
    DX≤DY = round_mono f (grid f a c * den d) (num d * 2 ^ low f) (grid f a' c' * den d) (num d * 2 ^ low f) over over (mul-le-mul_right (num d * 2 ^ low f) (mul-le-mul_right (den d) grids))

    DX+ : T (nonneg DX)
    DX+ = nonneg_under f (grid f a c * den d) (num d * 2 ^ low f) DY over DY+ DX≤DY

    carry : (x dx y dy : ℕ) → 0 < dy → x * dy ≤ y * dx → y < 4293918720 * dy → 0 < dx → x < 4293918720 * dx
    carry x dx y dy D k l E = elim (le_or (4293918720 * dx) x) [
      | inl u ↦ absurd (clash u)
      | inr u ↦ u
    ]
      where
        clash : 4293918720 * dx ≤ x → ⊥
        clash u =
            let v : 4293918720 * dx * dy ≤ x * dy = mul-le-mul_right dy u in
            let w : (y + 1) * dx ≤ 4293918720 * dy * dx = mul-le-mul_right dx (omega arith) in
            omega arith

    smaller_in : T (lt (div f (round f false a c) d) limit)
    smaller_in =
        rw (quotient a c X_fine)
        (cross→lt DX DX+ (carry (num DX) (den DX) (num DY) (den DY) (den_pos DY) (le→cross DX DY DX+ DY+ DX≤DY) (lt→cross DY DY+ DY_in) (den_pos DX)))

-- ---- a coordinate between two: its distance is between

distances : (px lx dx pM lM dM pm lm dm A B : ℕ) → px * dm + lm * dx ≡ lx * dm + pm * dx + A → pM * dm + lm * dM ≡ lM * dm + pm * dM + B → px * dM + lM * dx ≤ pM * dx + lx * dM
    → A * (dM * dm) ≤ B * (dx * dm)
distances px lx dx pM lM dM pm lm dm A B a b h =
    let a' : (px * dm + lm * dx) * (dM * dm) ≡ (lx * dm + pm * dx + A) * (dM * dm) = ap (λ (z : ℕ). z * (dM * dm)) a in
    let b' : (pM * dm + lm * dM) * (dx * dm) ≡ (lM * dm + pm * dM + B) * (dx * dm) = ap (λ (z : ℕ). z * (dx * dm)) b in
    let h' : (px * dM + lM * dx) * (dm * dm) ≤ (pM * dx + lx * dM) * (dm * dm) = mul-le-mul_right (dm * dm) h in
    omega arith

gap_sum : (m x : Float) → Cross m x → plus x * den m + minus m * den x ≡ minus x * den m + plus m * den x + gap x m
gap_sum m x h = omega arith

finite_between : (m x M : Float) → T (finite m) → T (finite M) → T (le m x) → T (le x M) → T (finite x)
unfolding le
finite_between m nan M p q h k = absurd k
finite_between nan (inf s) M p q h k = absurd p
finite_between (inf t) (inf s) M p q h k = absurd p
finite_between (fin t n e) (inf true) M p q h k = absurd h
finite_between (fin t n e) (inf false) nan p q h k = absurd q
finite_between (fin t n e) (inf false) (inf u) p q h k = absurd q
finite_between (fin t n e) (inf false) (fin u n' e') p q h k = absurd k
finite_between m (fin s n e) M p q h k = tt

-- where the high side passes, so does all that is between
between_in : (d m M x : Float) → T (finite m) → T (finite M) → T (positive d) → T (le m M) → T (lt (div binary64 (sub binary64 M m) d) limit) → T (le m x) → T (le x M) → T (lt (div binary64 (sub binary64 x m) d) limit)
between_in d m M x fm fM q lM tM l k =
    let fx : T (finite x) = finite_between m x M fm fM l k in
    let low_x : Cross m x = signed.le→cross m x fm fx l in
    let low_M : Cross m M = signed.le→cross m M fm fM lM in
    let low_k : Cross x M = signed.le→cross x M fx fM k in
    let C = mul-pos (mul-pos (den_pos x) (den_pos m)) (lit< tt) in
    let C' = mul-pos (mul-pos (den_pos M) (den_pos m)) (lit< tt) in
    let o = distances (plus x) (minus x) (den x) (plus M) (minus M) (den M) (plus m) (minus m) (den m) (gap x m) (gap M m) (gap_sum m x low_x) (gap_sum m M low_M) low_k in
    of_round binary64 d q m x (gap x m * 1) (den x * den m * 1) C (apart_of x m 1 fx fm low_x)
    (smaller_in binary64 d q (gap x m * 1) (den x * den m * 1) (gap M m * 1) (den M * den m * 1) C C' (ones (gap x m) (den M * den m) (gap M m) (den x * den m) o)
    (to_round binary64 d q m M (gap M m * 1) (den M * den m * 1) C' (apart_of M m 1 fM fm low_M) tM))
  where
    ones : (a b c e : ℕ) → a * b ≤ c * e → a * 1 * (b * 1) ≤ c * 1 * (e * 1)
    ones a b c e h = omega arith

-- ---- what is at most 4,004 cells wide with a bit added is so without it

clear_finite : (f : Format) (x s hi : Float) → T (clear x) → T (positive s) → T (nonneg hi) → T (le (div f x s) hi) → T (finite x)
unfolding div le
clear_finite f nan s hi c p n h = absurd c
clear_finite f (inf true) s hi c p n h = absurd c
clear_finite f (inf false) nan hi c p n h = absurd p
clear_finite f (inf false) (inf t) hi c p n h = absurd p
clear_finite f (inf false) (fin true m e) hi c p n h = absurd p
clear_finite f (inf false) (fin false m e) nan c p n h = absurd n
clear_finite f (inf false) (fin false m e) (inf t) c p n h = absurd n
clear_finite f (inf false) (fin false m e) (fin t m' e') c p n h = absurd h
clear_finite f (fin t m e) s hi c p n h = tt

-- a value's own fraction rounds to it
own_round : (f : Format) (x : Float) → T (nonneg x) → T (fits f x) → round f false (num x) (den x) ≡ x
own_round f nan p t = absurd p
own_round f (inf s) p t = absurd p
own_round f (fin true m e) p t = absurd p
own_round f (fin false m e) p t = round_back f false m e (m * up e) (down e) t (down_pos e) refl

add_out : (f : Format) (x t : Float) → T (clear x) → T (nonneg t) → T (finite (add f x t)) → T (finite x)
unfolding add
add_out f nan t c p h = absurd c
add_out f (inf true) t c p h = absurd c
add_out f (inf false) nan c p h = absurd p
add_out f (inf false) (inf u) c p h = absurd p
add_out f (inf false) (fin u n e) c p h = absurd h
add_out f (fin s n e) t c p h = tt

add_clear : (f : Format) (x t : Float) → T (clear x) → T (nonneg t) → T (clear (add f x t))
add_clear f nan t c p = absurd c
add_clear f (inf true) t c p = absurd c
add_clear f (inf false) nan c p = absurd p
add_clear f (inf false) (inf u) c p = absurd p
add_clear f (inf false) (fin u n e) c p = unfold add in tt
add_clear f (fin true m e) t c p = absurd c
add_clear f (fin false m e) t c p = rw (add_is f (fin false m e) t tt p) (round_clear f (m * up e * den t + num t * down e) (down e * den t))

module _ (f : Format) (x t s hi : Float) (c : T (clear x)) (held : T (fits f x)) (t+ : T (nonneg t)) (s+ : T (positive s)) (hi+ : T (nonneg hi)) (h : T (le (div f (add f x t) s) hi)) where
  abbrev A : Float
  A = add f x t

  A_fine : T (finite A)
  A_fine = clear_finite f A s hi (add_clear f x t c t+) s+ hi+ h

  A+ : T (nonneg A)
  A+ = clear_nonneg A (add_clear f x t c t+) A_fine

  x+ : T (nonneg x)
  x+ = clear_nonneg x c (add_out f x t c t+ A_fine)

  more_than : (a d b e : ℕ) → a * (d * e) ≤ (a * e + b * d) * d
  more_than a d b e = omega arith

  x≤A : T (le x A)
  x≤A =
      subst (λ (z : Float). T (le z A)) (own_round f x x+ held)
      (rw (add_is f x t x+ t+) (round_mono f (num x) (den x) (num x * den t + num t * den x) (den x * den t) (den_pos x) (mul-pos (den_pos x) (den_pos t)) (more_than (num x) (den x) (num t) (den t))))

  abbrev QA : Float
  QA = round f false (num A * den s) (num s * den A)

  abbrev QX : Float
  QX = round f false (num x * den s) (num s * den x)

  QA≤ : T (le QA hi)
  QA≤ = rw (div_own f A s A+ s+) at h

  crossed : (a d b e n k : ℕ) → a * e ≤ b * d → a * k * (n * e) ≤ b * k * (n * d)
  crossed a d b e n k h = omega (arith, mul-le-mul_right (k * n) h)

  QX≤QA : T (le QX QA)
  QX≤QA =
      round_mono f (num x * den s) (num s * den x) (num A * den s) (num s * den A) (mul-pos (num_pos s s+) (den_pos x)) (mul-pos (num_pos s s+) (den_pos A))
      (crossed (num x) (den x) (num A) (den A) (num s) (den s) (le→cross x A x+ A+ x≤A))

  narrower : T (le (div f x s) hi)
  narrower = rw (div_own f x s x+ s+) (signed.float_le_trans QX QA hi QX≤QA QA≤)

-- ---- a fine unit is the size by 2^20, exactly

pub record Scaled (s d : Float) : Type 0 where
  pub size_above : T (positive s)
  pub unit_above : T (positive d)
  pub is : num d * (1048576 * den s) ≡ num s * den d

-- 2 ^ e / 2 ^ 20 is a whole number of the format's smallest values, if 2 ^ 20 * down e is at most 2 ^ l
shift : (l : ℕ) → 20 ≤ l → (e : ℤ) → 1048576 * down e ≤ 2 ^ l → (j : ℕ) × (up e * 2 ^ l ≡ 2 ^ j * (1048576 * down e))
shift l h (pos k) d = (k + (l - 20), sym (pow-add 2 k l) ∙ ap (λ (z : ℕ). 2 ^ z) (apart k l h) ∙ pow-add 2 (k + (l - 20)) 20)
  where
    apart : (k l : ℕ) → 20 ≤ l → k + l ≡ k + (l - 20) + 20
    apart k l h = omega arith
shift l h (negsuc k) d =
    let g : 20 + suc k ≤ l = pow_le_back (20 + suc k) l (le_trans (le_of_eq (pow-add 2 20 (suc k))) d) in (
      l - (20 + suc k),
      one-mul (2 ^ l) ∙ ap (λ (z : ℕ). 2 ^ z) (back l (20 + suc k) g) ∙ pow-add 2 (l - (20 + suc k)) (20 + suc k) ∙ ap (λ (z : ℕ). 2 ^ (l - (20 + suc k)) * z) (pow-add 2 20 (suc k)),
    )
  where
    back : (l k : ℕ) → k ≤ l → l ≡ l - k + k
    back l k h = omega arith

under_top : (x d t l u : ℕ) → u * l ≡ x * (1048576 * d) → u < t * d → 0 < l → 0 < d → x < l * t
under_top x d t l u e h L D =
    let a : u * l < t * d * l = mul-lt-mul_of_pos_right h L in
    let b : x * 1048576 * d < l * t * d = omega arith in
    omega (arith, lt_of_mul-lt-mul_right d b)

part_round : (f : Format) (m : ℕ) (e : ℤ) → 20 ≤ low f → 0 < m → T (fits f (fin false m e)) → 1048576 * down e ≤ 2 ^ low f → HasValue (round f false (m * up e) (1048576 * down e)) false (m * up e) (1048576 * down e)
part_round f zero e w M t h = absurd (lt_irrefl 0 M)
part_round f (suc n) e w M t h =
    let m = suc n in
    let p = fits_says f false n e t in
    let s = shift (low f) w e h in
    let j = s.0 in
    let q : m * up e * 2 ^ low f ≡ m * 2 ^ j * (1048576 * down e) = mul_assoc m (up e) (2 ^ low f) ∙ ap (λ (z : ℕ). m * z) s.1 ∙ sym (mul_assoc m (2 ^ j) (1048576 * down e)) in
    round_exact f false (m * up e) (1048576 * down e) m j (mul-pos (lit< tt) (down_pos e)) p.0
    (subst (λ (z : ℕ). m * 2 ^ j < z) (sym (pow-add 2 (low f) (suc (emax f)))) (under_top (m * 2 ^ j) (down e) (2 ^ suc (emax f)) (2 ^ low f) (m * up e) q p.2 (pow_pos (low f)) (down_pos e)))
    q

-- a value that fits and is at least 2 ^ -40 has not too low an exponent
low_enough : (f : Format) (s : Float) → T (positive s) → T (fits f s) → 1 * den s ≤ num s * 1099511627776 → 1048576 * 1 ≤ 2 ^ low f → 1152921504606846976 * 2 ^ prec f ≤ 2 ^ low f → 1048576 * den s ≤ 2 ^ low f
low_enough f nan p t h w k = absurd p
low_enough f (inf b) p t h w k = absurd p
low_enough f (fin true m e) p t h w k = absurd p
low_enough f (fin false m (pos j)) p t h w k = w
low_enough f (fin false zero (negsuc j)) p t h w k = absurd p
low_enough f (fin false (suc m) (negsuc j)) p t h w k = go (2 ^ suc j) (suc m) (2 ^ prec f) (2 ^ low f) h (le_of_lt (fits_says f false m (negsuc j) t).0) k
  where
    go : (d m p l : ℕ) → 1 * d ≤ m * 1 * 1099511627776 → m ≤ p → 1152921504606846976 * p ≤ l → 1048576 * d ≤ l
    go d m p l a b c = omega arith

part_value : (f : Format) (s : Float) → 20 ≤ low f → T (positive s) → T (fits f s) → 1048576 * den s ≤ 2 ^ low f → HasValue (div f s (fin false 1 (pos 20))) false (num s) (1048576 * den s)
part_value f nan w p t h = absurd p
part_value f (inf b) w p t h = absurd p
part_value f (fin true m e) w p t h = absurd p
part_value f (fin false m e) w p t h =
    subst (λ (z : Float). HasValue z false (m * up e) (1048576 * down e))
    (sym (div_at f (fin false m e) (fin false 1 (pos 20)) (m * up e) (down e) 1048576 1 tt (down_pos e) (lit< tt) (refl, refl) (refl, refl) ∙ ap (λ (z : ℕ). round f false z (1048576 * down e)) (mul-one (m * up e))))
    (part_round f m e w (ltb→lt 0 m p) t h)

pub unit_scaled : (s : Float) → T (positive s) → T (fits binary64 s) → 1 * den s ≤ num s * 1099511627776 → Scaled s (div binary64 s (fin false 1 (pos 20)))
unit_scaled s p t h =
    let d = div binary64 s (fin false 1 (pos 20)) in
    let v : HasValue d false (num s) (1048576 * den s) = part_value binary64 s (lit≤ tt) p t (low_enough binary64 s p t h (lit≤ tt) (lit≤ tt)) in
    record { size_above = p; unit_above = positive_of_value d (num s) (1048576 * den s) v (num_pos s p); is = value→cross d (num s) (1048576 * den s) v }

-- ---- the high side passes where the extent is at most 4,004 cells

scale : (g ns ds nd dd l : ℕ) → 0 < ds → nd * (1048576 * ds) ≡ ns * dd → g * ds ≤ 4005 * (ns * l) → g * dd * 1 ≤ 4199546880 * (nd * l)
scale g ns ds nd dd l D e h =
    let u : g * ds * dd ≤ 4005 * (ns * l) * dd = mul-le-mul_right dd h in
    let v : nd * (1048576 * ds) * l ≡ ns * dd * l = ap (λ (z : ℕ). z * l) e in
    let w : g * dd * ds ≤ 4199546880 * (nd * l) * ds = omega arith in
    let x : g * dd ≤ 4199546880 * (nd * l) = le_of_mul-le-mul_right w D in
    omega arith

module _ (f : Format) (s d : Float) (z : Scaled s d) (room : 4199546880 ≤ 2 ^ prec f) (a c : ℕ) (C : 0 < c) (h : T (le (div f (round f false a c) s) (round f false 4004 1))) where
  whole : (n : ℕ) → n ≤ 4199546880 → HasValue (round f false n 1) false n 1
  whole n k = round_whole f false n (le_trans k room)

  most+ : T (nonneg (round f false 4004 1))
  most+ = nonneg_of_value (round f false 4004 1) 4004 1 (whole 4004 (lit≤ tt))

  fine : T (finite (round f false a c))
  fine = clear_finite f (round f false a c) s (round f false 4004 1) (round_clear f a c) z.size_above most+ h

  abbrev G : ℕ
  G = grid f a c

  abbrev Z : Float
  Z = round f false (grid f a c * den s) (num s * 2 ^ low f)

  Z≤ : T (le Z (round f false 4004 1))
  Z≤ = rw (quotient f s z.size_above a c fine) at h

  Z+ : T (nonneg Z)
  Z+ = nonneg_under f (grid f a c * den s) (num s * 2 ^ low f) (round f false 4004 1) (over f s z.size_above) most+ Z≤

  few : G * den s ≤ 4005 * (num s * 2 ^ low f)
  few = elim (le_or (G * den s) (4005 * (num s * 2 ^ low f))) [
    | inl k ↦ k
    | inr k ↦ absurd (clash k)
  ]
    where
      more : (x y : ℕ) → x < y → x ≤ y * 1
      more x y k = omega arith

      apart : (x y : ℕ) → 0 < y → 4005 * y ≤ x * 1 → x * 1 ≤ 4004 * y → ⊥
      apart x y p k l = omega arith

      clash : 4005 * (num s * 2 ^ low f) < G * den s → ⊥
      clash k =
          let m : T (le (round f false 4005 1) Z) = round_mono f 4005 1 (G * den s) (num s * 2 ^ low f) (lit< tt) (over f s z.size_above) (more (4005 * (num s * 2 ^ low f)) (G * den s) k) in
          apart (num Z) (den Z) (den_pos Z)
          (values_of_le (round f false 4005 1) Z 4005 1 (num Z) (den Z) (whole 4005 (lit≤ tt)) (own_value Z Z+) m)
          (values_of_le Z (round f false 4004 1) (num Z) (den Z) 4004 1 (own_value Z Z+) (whole 4004 (lit≤ tt)) Z≤)

  abbrev W : Float
  W = round f false (grid f a c * den d) (num d * 2 ^ low f)

  W≤ : T (le W (round f false 4199546880 1))
  W≤ = round_mono f (G * den d) (num d * 2 ^ low f) 4199546880 1 (over f d z.unit_above) (lit< tt) (scale G (num s) (den s) (num d) (den d) (2 ^ low f) (den_pos s) z.is few)

  W+ : T (nonneg W)
  W+ =
      nonneg_under f (G * den d) (num d * 2 ^ low f) (round f false 4199546880 1) (over f d z.unit_above)
      (nonneg_of_value (round f false 4199546880 1) 4199546880 1 (whole 4199546880 (lit≤ tt))) W≤

  far_in : T (lt (div f (round f false a c) d) limit)
  far_in =
      rw (quotient f d z.unit_above a c fine)
      (cross→lt W W+ (under (num W) (den W) (den_pos W) (values_of_le W (round f false 4199546880 1) (num W) (den W) 4199546880 1 (own_value W W+) (whole 4199546880 (lit≤ tt)) W≤)))
    where
      under : (x y : ℕ) → 0 < y → x * 1 ≤ 4199546880 * y → x < 4293918720 * y
      under x y p k = omega arith

-- 1e-9, which the count of cells adds to the extent
abbrev pub bit : Float
bit = round binary64 false 1 1000000000

bit+ : T (nonneg (round binary64 false 1 1000000000))
unfolding round
bit+ = tt

module _ (s d : Float) (z : Scaled s d) where
  4004+ : T (nonneg (round binary64 false 4004 1))
  4004+ = nonneg_of_value (round binary64 false 4004 1) 4004 1 (round_whole binary64 false 4004 (lit≤ tt))

  by_round : (a c : ℕ) → 0 < c → T (le (div binary64 (add binary64 (round binary64 false a c) bit) s) (round binary64 false 4004 1)) → T (lt (div binary64 (round binary64 false a c) d) limit)
  by_round a c C h =
      far_in binary64 s d z (lit≤ tt) a c C
      (narrower binary64 (round binary64 false a c) bit s (round binary64 false 4004 1) (round_clear binary64 a c) (round-fits binary64 false a c) bit+ z.size_above 4004+ h)

  high_in : (m M : Float) (a c : ℕ) → 0 < c → Apart M m a c → T (le (div binary64 (add binary64 (sub binary64 M m) bit) s) (round binary64 false 4004 1)) → T (lt (div binary64 (sub binary64 M m) d) limit)
  high_in m M a c C p h = elim (sub_is binary64 M m a c C p) [
    | inl e ↦
        subst (λ (x : Float). T (lt (div binary64 x d) limit)) (sym e)
        (by_round a c C (subst (λ (x : Float). T (le (div binary64 (add binary64 x bit) s) (round binary64 false 4004 1))) e h))
    | inr k ↦ subst (λ (x : Float). T (lt (div binary64 x d) limit)) (sym k.0) (minus_in binary64 d z.unit_above)
  ]

-- ---- an axis of a grid that a build makes

-- from its low side to `high` it is at most 4,004 cells: (high - low + 1e-9) / size, whose ceiling is the count, is at most that. The size is a value of the
-- format, at least 2^-40
pub record Extends (a : Axis) (high : Float) : Type 0 where
  pub size_above : T (positive a.size)
  pub size_held : T (fits binary64 a.size)
  pub size_least : 1 * den a.size ≤ num a.size * 1099511627776
  pub low_known : T (finite a.low)
  pub high_known : T (finite high)
  pub order : T (le a.low high)
  pub few : T (le (div binary64 (add binary64 (sub binary64 high a.low) bit) a.size) (round binary64 false 4004 1))

pub axis_near : (a : Axis) (high v : Float) → Extends a high → T (le a.low v) → T (le v high) → near_on a v ≡ true
unfolding near_on units_on unit_on
axis_near a high v p l k =
    let z = unit_scaled a.size p.size_above p.size_held p.size_least in
    let c : Cross a.low high = signed.le→cross a.low high p.low_known p.high_known p.order in
    let t =
    high_in a.size (unit_on a) z a.low high (gap high a.low * 1) (den high * den a.low * 1) (mul-pos (mul-pos (den_pos high) (den_pos a.low)) (lit< tt))
    (apart_of high a.low 1 p.high_known p.low_known c) p.few in
    and_both (le a.low v) (lt (units_on a v) limit) (is_true (le a.low v) l)
    (is_true (lt (units_on a v) limit) (between_in (unit_on a) a.low high v p.low_known p.high_known z.unit_above p.order t l k))

-- a line between the sides of a grid
pub record Between (g : Grid) (highX highY : Float) (line : Segment) : Type 0 where
  pub start_x_low : T (le g.min_x line.start_x)
  pub start_x_high : T (le line.start_x highX)
  pub start_y_low : T (le g.min_y line.start_y)
  pub start_y_high : T (le line.start_y highY)
  pub end_x_low : T (le g.min_x line.end_x)
  pub end_x_high : T (le line.end_x highX)
  pub end_y_low : T (le g.min_y line.end_y)
  pub end_y_high : T (le line.end_y highY)

pub line_passes : (g : Grid) (highX highY : Float) (line : Segment) → Extends (x_axis g) highX → Extends (y_axis g) highY → Between g highX highY line → passes g line ≡ true
unfolding passes end_passes
line_passes g highX highY line x y b =
    rw (
      axis_near (x_axis g) highX line.start_x x b.start_x_low b.start_x_high,
      axis_near (y_axis g) highY line.start_y y b.start_y_low b.start_y_high,
      axis_near (x_axis g) highX line.end_x x b.end_x_low b.end_x_high,
      axis_near (y_axis g) highY line.end_y y b.end_y_low b.end_y_high,
    )
