-- The values that are finite with a clear sign, zero included, each as a fraction `num` / `den`: their order, their sum, and their quotient by a value
-- above zero. Assumes nothing.
use Rattle.std.proofs.Common.{◌≡◌, ℕ, zero, suc, ◌+◌, ◌-◌, ◌*◌, ◌^◌, ◌<◌, ◌≤◌, Bool, true, false, cond, not, ◌&&◌, T, ltb, ℤ, pos, sym, refl, ap, ◌∙◌, subst, ap₂, true≢false, le_trans, le_of_eq, mul_assoc, mul_comm, mul-pos, zero-mul, mul_left_comm, arith, lit<, ltb→lt, lt→ltb}
use native.Mathlib.Nat.{eq_of_mul-eq-mul_right}
use lib.Ieee.{Float, nan, inf, fin, Format, prec, emax, up, down, odd, units, round, sum, add, div, le, low}
use lib.Ieee.Fits.{up_pos, down_pos, round_is}
use lib.Ieee.Exact.{HasValue}
use lib.Ieee.Order.{transfer, le_of_values, kept, drop}
use lib.Ieee.Scale.{round_same, round_val, round_under, grid, finite}
use lib.Ieee.Positive.{num, den, den_pos, positive, value→cross}
use Rattle.numbers.proofs.Sums.{sum_at_lem}
use Rattle.numbers.proofs.FloatOrder as Signed
use Rattle.numbers.proofs.FloatSum.{zero_le}
use Rattle.numbers.proofs.FloatQuotient.{num_pos, div_is}

abbrev pub nonneg : Float → Bool
nonneg nan = false
nonneg (inf s) = false
nonneg (fin s m e) = not s

pub nonneg_of_value : (x : Float) (a c : ℕ) → HasValue x false a c → T (nonneg x)
nonneg_of_value nan a c h = absurd h
nonneg_of_value (inf s) a c h = absurd h
nonneg_of_value (fin true m e) a c h = absurd (true≢false h.0)
nonneg_of_value (fin false m e) a c h = tt

pub own_value : (x : Float) → T (nonneg x) → HasValue x false (num x) (den x)
own_value nan p = absurd p
own_value (inf s) p = absurd p
own_value (fin true m e) p = absurd p
own_value (fin false m e) p = (refl, refl)

pub nonneg_of_positive : (x : Float) → T (positive x) → T (nonneg x)
nonneg_of_positive nan p = absurd p
nonneg_of_positive (inf s) p = absurd p
nonneg_of_positive (fin true m e) p = absurd p
nonneg_of_positive (fin false m e) p = tt

-- ---- the order
pub le→cross : (x y : Float) → T (nonneg x) → T (nonneg y) → T (le x y) → num x * den y ≤ num y * den x
le→cross nan y p q h = absurd p
le→cross (inf s) y p q h = absurd p
le→cross (fin true m e) y p q h = absurd p
le→cross (fin false m e) nan p q h = absurd q
le→cross (fin false m e) (inf t) p q h = absurd q
le→cross (fin false m e) (fin true n d) p q h = absurd q
le→cross (fin false m e) (fin false n d) p q h = let k = Signed.le→cross (fin false m e) (fin false n d) tt tt h in omega arith

pub cross→le : (x y : Float) → T (nonneg x) → T (nonneg y) → num x * den y ≤ num y * den x → T (le x y)
cross→le x y p q h = le_of_values x y (num x) (den x) (num y) (den y) (den_pos x) (den_pos y) (own_value x p) (own_value y q) h

pub values_of_le : (x y : Float) (a c b d : ℕ) → HasValue x false a c → HasValue y false b d → T (le x y) → a * d ≤ b * c
values_of_le x y a c b d h k l =
    transfer a b c d (num x) (num y) (den x) (den y) (den_pos x) (den_pos y) (sym (value→cross x a c h)) (sym (value→cross y b d k))
    (le→cross x y (nonneg_of_value x a c h) (nonneg_of_value y b d k) l)

-- ---- the sum
pub add_is : (f : Format) (x y : Float) → T (nonneg x) → T (nonneg y) → add f x y ≡ round f false (num x * den y + num y * den x) (den x * den y)
add_is f x y p q = sum_at_lem f false x y (num x) (den x) (num y) (den y) (den_pos x) (den_pos y) (own_value x p) (own_value y q)

-- ---- the quotient by a value above zero
pub div_own : (f : Format) (x y : Float) → T (nonneg x) → T (positive y) → div f x y ≡ round f false (num x * den y) (num y * den x)
div_own f nan y p q = absurd p
div_own f (inf s) y p q = absurd p
div_own f (fin true m e) y p q = absurd p
div_own f (fin false m e) y p q = div_is f false m e y q

-- by any fractions that the two equal
pub div_at : (f : Format) (x y : Float) (a c b d : ℕ) → T (positive y) → 0 < c → 0 < b → HasValue x false a c → HasValue y false b d → div f x y ≡ round f false (a * d) (b * c)
div_at f x y a c b d q C B h k =
    div_own f x y (nonneg_of_value x a c h) q
    ∙ round_same f false (num x * den y) (num y * den x) (a * d) (b * c) (mul-pos (num_pos y q) (den_pos x)) (mul-pos B C)
    (cross (num x) (den x) (num y) (den y) a c b d (value→cross x a c h) (value→cross y b d k))
  where
    cross : (nx dx ny dy a c b d : ℕ) → nx * c ≡ a * dx → ny * d ≡ b * dy → nx * dy * (b * c) ≡ a * d * (ny * dx)
    cross nx dx ny dy a c b d u v =
        let l : nx * dy * (b * c) ≡ nx * c * (b * dy) = simp (mul_assoc, mul_comm, mul_left_comm) in
        let r : a * dx * (ny * d) ≡ a * d * (ny * dx) = simp (mul_assoc, mul_comm, mul_left_comm) in
        l ∙ ap₂ (λ (y z : ℕ). y * z) u (sym v) ∙ r

-- ---- a rounded fraction's value, where it is finite
pub round_value : (f : Format) (a c : ℕ) → T (finite (round f false a c)) → HasValue (round f false a c) false (grid f a c) (2 ^ low f)
round_value f a c t = round_val f a c (round_under f a c t)

-- ---- a rounded fraction's sign is clear, that of an infinity included

abbrev pub clear : Float → Bool
clear nan = false
clear (inf s) = not s
clear (fin s m e) = not s

odd_clear : (d q k l : ℕ) → T (clear (odd d false q k l))
unfolding odd
odd_clear d zero k l = tt
odd_clear d (suc q) k l = tt

units_clear : (f : Format) (q k : ℕ) → T (clear (units f false q k))
unfolding units
units_clear f q k = go (ltb (q * 2 ^ k) (2 ^ (low f + suc (emax f))))
  where
    go : (b : Bool) → T (clear (cond b (odd (suc (prec f)) false q k (low f)) (inf false)))
    go true = odd_clear (suc (prec f)) q k (low f)
    go false = tt

pub round_clear : (f : Format) (a c : ℕ) → T (clear (round f false a c))
round_clear f a c = subst (λ (z : Float). T (clear z)) (sym (round_is f false a c)) (units_clear f (kept (prec f) (a * 2 ^ low f) c) (drop (prec f) (a * 2 ^ low f) c))

pub clear_nonneg : (x : Float) → T (clear x) → T (finite x) → T (nonneg x)
clear_nonneg nan c h = absurd c
clear_nonneg (inf s) c h = absurd h
clear_nonneg (fin true m e) c h = absurd c
clear_nonneg (fin false m e) c h = tt

-- ---- what lies between zero and a finite value is finite
squeeze : (z hi : Float) → T (nonneg hi) → T (le (fin false 0 (pos 0)) z) → T (le z hi) → T (finite z)
unfolding le
squeeze nan hi p a b = absurd a
squeeze (inf true) hi p a b = absurd a
squeeze (inf false) nan p a b = absurd p
squeeze (inf false) (inf t) p a b = absurd p
squeeze (inf false) (fin t n d) p a b = absurd b
squeeze (fin t m e) hi p a b = tt

pub finite_under : (f : Format) (a c : ℕ) (hi : Float) → 0 < c → T (nonneg hi) → T (le (round f false a c) hi) → T (finite (round f false a c))
finite_under f a c hi C p h = squeeze (round f false a c) hi p (zero_le f a c C) h

pub nonneg_under : (f : Format) (a c : ℕ) (hi : Float) → 0 < c → T (nonneg hi) → T (le (round f false a c) hi) → T (nonneg (round f false a c))
nonneg_under f a c hi C p h = nonneg_of_value (round f false a c) (grid f a c) (2 ^ low f) (round_value f a c (finite_under f a c hi C p h))

-- ---- minus zero, as a first summand, is as good as zero
pick : (f : Format) (a b c : ℕ) → a < b → sum f true a false b c ≡ round f false (b - a) c
unfolding sum
pick f a b c h = go (ltb a b) (lt→ltb a b h)
  where
    go : (t : Bool) → T t → cond t (round f false (b - a) c) (round f (true && ltb b a) (a - b) c) ≡ round f false (b - a) c
    go true k = refl
    go false k = absurd k

minus_zero : (m u d : ℕ) → m ≡ 0 → m * u * d ≡ 0
minus_zero m u d h = ap (λ (z : ℕ). z * u * d) h ∙ simp (zero-mul)

alike : (a n u d e : ℕ) → a ≡ 0 → (n * u * e - a) * (1 * d) ≡ (0 * 1 * d + n * u * 1) * (e * d)
alike a n u d e h =
    let k : n * u * e - a ≡ n * u * e = omega arith in
    ap (λ (z : ℕ). z * (1 * d)) k ∙ omega arith

neg_zero_sum : (f : Format) (m : ℕ) (e : ℤ) (n : ℕ) (d : ℤ) → m ≡ 0 → 0 < n → add f (fin true m e) (fin false n d) ≡ add f (fin false 0 (pos 0)) (fin false n d)
unfolding add
neg_zero_sum f m e n d h N =
    let z : m * up e * down d ≡ 0 = minus_zero m (up e) (down d) h in
    let b : 0 < n * up d * down e = mul-pos (mul-pos N (up_pos d)) (down_pos e) in
    pick f (m * up e * down d) (n * up d * down e) (down e * down d) (omega arith)
    ∙ round_same f false (n * up d * down e - m * up e * down d) (down e * down d) (0 * 1 * down d + n * up d * 1) (1 * down d) (mul-pos (down_pos e) (down_pos d)) (mul-pos (lit< tt) (down_pos d))
    (alike (m * up e * down d) n (up d) (down d) (down e) z)

pub neg_zero_add : (f : Format) (m : ℕ) (e : ℤ) (y : Float) → m ≡ 0 → T (positive y) → add f (fin true m e) y ≡ add f (fin false 0 (pos 0)) y
neg_zero_add f m e nan h p = absurd p
neg_zero_add f m e (inf s) h p = absurd p
neg_zero_add f m e (fin true n d) h p = absurd p
neg_zero_add f m e (fin false n d) h p = neg_zero_sum f m e n d h (ltb→lt 0 n p)

pub first_zero : (m u : ℕ) → 0 < u → m * u ≡ 0 → m ≡ 0
first_zero m u U h = eq_of_mul-eq-mul_right u U m 0 (h ∙ sym (zero-mul u))

-- a value with a set sign that is at least zero is minus zero
pub neg_zero_of : (m : ℕ) (e : ℤ) → T (le (fin false 0 (pos 0)) (fin true m e)) → m ≡ 0
neg_zero_of m e h =
    let k = Signed.le→cross (fin false 0 (pos 0)) (fin true m e) tt tt h in
    let z : m * up e ≡ 0 = omega arith in
    first_zero m (up e) (up_pos e) z

-- ---- x is at most K times s
abbrev pub Times : Float → Float → ℕ → Type 0
Times x s K = num x * den s ≤ K * num s * den x

-- by any fractions that the two equal
pub times_of_values : (x s : Float) (K a c b d : ℕ) → 0 < c → 0 < d → HasValue x false a c → HasValue s false b d → a * d ≤ K * (b * c) → Times x s K
times_of_values x s K a c b d C D h k l =
    transfer (num x) (K * num s) (den x) (den s) a (K * b) c d C D (value→cross x a c h) (scaled (num s) (den s) b d (value→cross s b d k)) (le_trans l (le_of_eq (sym (mul_assoc K b c))))
  where
    scaled : (S D b d : ℕ) → S * d ≡ b * D → K * S * d ≡ K * b * D
    scaled S D b d e = mul_assoc K S d ∙ ap (λ (z : ℕ). K * z) e ∙ sym (mul_assoc K b D)
