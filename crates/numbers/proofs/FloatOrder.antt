-- The order of floats that are no NaN: it is total and transitive, and `lt` is its strict part. Finite values are compared as signed
-- fractions: x is (plus x - minus x) / den x, where one of the two parts is 0. Assumes nothing.
use Rattle.std.proofs.Common.{◌≡◌, ℕ, ◌+◌, ◌*◌, ◌<◌, ◌≤◌, Bool, true, false, not, ◌&&◌, ◌||◌, T, eqb, ltb, sym, refl, subst, inl, inr, true≢false, mul-le-mul_right, le_of_mul-le-mul_right, arith, eqb→eq, ltb→lt, nltb→le}
use lib.Ieee.{Float, nan, inf, fin, up, down, neg, below, level, lt, le, eq}
use lib.Ieee.Fits.{and_l, and_r, and_i, eq→eqb}
use lib.Ieee.Scale.{finite}
use lib.Ieee.Positive.{den, den_pos}
use Rattle.numbers.proofs.Tests.{or_cases, or_left}

-- ---- values that are no NaN

abbrev pub number : Float → Bool
number nan = false
number (inf s) = true
number (fin s m e) = true

pub finite_number : (x : Float) → T (finite x) → T (number x)
finite_number nan p = absurd p
finite_number (inf s) p = absurd p
finite_number (fin s m e) p = tt

pub neg_finite : (x : Float) → T (finite x) → T (finite (neg x))
unfolding neg
neg_finite nan p = absurd p
neg_finite (inf s) p = absurd p
neg_finite (fin s m e) p = tt

-- ---- the order of signed numbers: ±a ≤ ±b

-- the part of ±a above zero, and the part below
abbrev pub above : Bool → ℕ → ℕ
above true a = 0
above false a = a

abbrev pub under : Bool → ℕ → ℕ
under true a = a
under false a = 0

-- ±a ≤ ±b, as `le` has it
abbrev signed : Bool → ℕ → Bool → ℕ → Bool
signed s a t b = below s a t b || level s a t b

signed_to : (s : Bool) (a : ℕ) (t : Bool) (b : ℕ) → T (signed s a t b) → above s a + under t b ≤ above t b + under s a
signed_to false a false b h = elim (or_cases (ltb a b) (eqb a b && true) h) [ inl u ↦ omega (arith, ltb→lt a b u) | inr u ↦ omega (arith, eqb→eq a b (and_l (eqb a b) true u)) ]
signed_to false a true b h = omega (arith, eqb→eq a b (and_l (eqb a b) (eqb a 0) h), eqb→eq a 0 (and_r (eqb a b) (eqb a 0) h))
signed_to true a false b h = omega arith
signed_to true a true b h = elim (or_cases (ltb b a) (eqb a b && true) h) [ inl u ↦ omega (arith, ltb→lt b a u) | inr u ↦ omega (arith, eqb→eq a b (and_l (eqb a b) true u)) ]

is_eqb : (a b : ℕ) → a ≡ b → T (eqb a b)
is_eqb a b h = eq→eqb h

equal_or : (a b : ℕ) (c : Bool) → (T (not c) → a ≡ b) → T (c || (eqb a b && true))
equal_or a b true h = tt
equal_or a b false h = and_i (eqb a b) true (eq→eqb (h tt)) tt

signed_of : (s : Bool) (a : ℕ) (t : Bool) (b : ℕ) → above s a + under t b ≤ above t b + under s a → T (signed s a t b)
signed_of false a false b h = equal_or a b (ltb a b) (λ n. let k = nltb→le a b n in omega arith)
signed_of false a true b h = and_i (eqb a b) (eqb a 0) (is_eqb a b (omega arith)) (is_eqb a 0 (omega arith))
signed_of true a false b h = go (ltb 0 (a + b)) (nltb→le 0 (a + b))
  where
    go : (c : Bool) → (T (not c) → a + b ≤ 0) → T (c || (eqb a b && eqb a 0))
    go true k = tt
    go false k = let z = k tt in and_i (eqb a b) (eqb a 0) (is_eqb a b (omega arith)) (is_eqb a 0 (omega arith))
signed_of true a true b h = equal_or a b (ltb b a) (λ n. let k = nltb→le b a n in omega arith)

-- ---- finite values as signed fractions

abbrev pub plus : Float → ℕ
plus nan = 0
plus (inf s) = 0
plus (fin s m e) = above s (m * up e)

abbrev pub minus : Float → ℕ
minus nan = 0
minus (inf s) = 0
minus (fin s m e) = under s (m * up e)

-- x ≤ y, over the product of the two denominators
abbrev pub Cross : Float → Float → Type 0
Cross x y = plus x * den y + minus y * den x ≤ plus y * den x + minus x * den y

parts : (s : Bool) (m u d : ℕ) → (above s (m * u) * d ≡ above s (m * u * d)) × (under s (m * u) * d ≡ under s (m * u * d))
parts true m u d = (omega arith, refl)
parts false m u d = (refl, omega arith)

pub le→cross : (x y : Float) → T (finite x) → T (finite y) → T (le x y) → Cross x y
unfolding le lt eq
le→cross nan y p q h = absurd p
le→cross (inf s) y p q h = absurd p
le→cross (fin s m e) nan p q h = absurd q
le→cross (fin s m e) (inf t) p q h = absurd q
le→cross (fin s m e) (fin t n d) p q h =
    let k = signed_to s (m * up e * down d) t (n * up d * down e) h in
    let x = parts s m (up e) (down d) in
    let y = parts t n (up d) (down e) in
    omega arith

pub cross→le : (x y : Float) → T (finite x) → T (finite y) → Cross x y → T (le x y)
unfolding le lt eq
cross→le nan y p q h = absurd p
cross→le (inf s) y p q h = absurd p
cross→le (fin s m e) nan p q h = absurd q
cross→le (fin s m e) (inf t) p q h = absurd q
cross→le (fin s m e) (fin t n d) p q h =
    let x = parts s m (up e) (down d) in
    let y = parts t n (up d) (down e) in
    signed_of s (m * up e * down d) t (n * up d * down e) (omega arith)

-- ---- transitive

pub through : (p n d p' n' d' p'' n'' d'' : ℕ) → 0 < d' → p * d' + n' * d ≤ p' * d + n * d' → p' * d'' + n'' * d' ≤ p'' * d' + n' * d''
    → p * d'' + n'' * d ≤ p'' * d + n * d''
through p n d p' n' d' p'' n'' d'' D h k =
    let a : (p * d' + n' * d) * d'' ≤ (p' * d + n * d') * d'' = mul-le-mul_right d'' h in
    let b : (p' * d'' + n'' * d') * d ≤ (p'' * d' + n' * d'') * d = mul-le-mul_right d k in
    let c : (p * d'' + n'' * d) * d' ≤ (p'' * d + n * d'') * d' = omega arith in
    le_of_mul-le-mul_right c D

pub float_le_trans : (x y z : Float) → T (le x y) → T (le y z) → T (le x z)
unfolding le
float_le_trans nan y z h k = absurd h
float_le_trans (inf s) nan z h k = absurd h
float_le_trans (inf true) (inf t) nan h k = absurd k
float_le_trans (inf true) (inf t) (inf true) h k = tt
float_le_trans (inf true) (inf t) (inf false) h k = tt
float_le_trans (inf true) (inf t) (fin u n d) h k = tt
float_le_trans (inf false) (inf true) z h k = absurd h
float_le_trans (inf false) (inf false) z h k = k
float_le_trans (inf true) (fin t n d) nan h k = absurd k
float_le_trans (inf true) (fin t n d) (inf true) h k = tt
float_le_trans (inf true) (fin t n d) (inf false) h k = tt
float_le_trans (inf true) (fin t n d) (fin u m e) h k = tt
float_le_trans (inf false) (fin t n d) z h k = absurd h
float_le_trans (fin s m e) nan z h k = absurd h
float_le_trans (fin s m e) (inf true) z h k = absurd h
float_le_trans (fin s m e) (inf false) nan h k = absurd k
float_le_trans (fin s m e) (inf false) (inf true) h k = absurd k
float_le_trans (fin s m e) (inf false) (inf false) h k = tt
float_le_trans (fin s m e) (inf false) (fin u n d) h k = absurd k
float_le_trans (fin s m e) (fin t n d) nan h k = absurd k
float_le_trans (fin s m e) (fin t n d) (inf true) h k = absurd k
float_le_trans (fin s m e) (fin t n d) (inf false) h k = tt
float_le_trans (fin s m e) (fin t n d) (fin u o g) h k =
    let x = fin s m e in
    let y = fin t n d in
    let z = fin u o g in
    unfold le in
    cross→le x z tt tt (through (plus x) (minus x) (den x) (plus y) (minus y) (den y) (plus z) (minus z) (den z) (den_pos y) (le→cross x y tt tt h) (le→cross y z tt tt k))

-- ---- total: x is at most y exactly where y is not below x

below_to : (s : Bool) (a : ℕ) (t : Bool) (b : ℕ) → T (below s a t b) → above s a + under t b < above t b + under s a
below_to false a false b h = omega (arith, ltb→lt a b h)
below_to false a true b h = absurd h
below_to true a false b h = omega (arith, ltb→lt 0 (a + b) h)
below_to true a true b h = omega (arith, ltb→lt b a h)

below_of : (s : Bool) (a : ℕ) (t : Bool) (b : ℕ) → T (not (below s a t b)) → above t b + under s a ≤ above s a + under t b
below_of false a false b h = omega (arith, nltb→le a b h)
below_of false a true b h = omega arith
below_of true a false b h = omega (arith, nltb→le 0 (a + b) h)
below_of true a true b h = omega (arith, nltb→le b a h)

pub at_most : (x y : Float) → T (number x) → T (number y) → lt y x ≡ false → T (le x y)
unfolding le lt eq
at_most nan y p q h = absurd p
at_most (inf s) nan p q h = absurd q
at_most (inf true) (inf t) p q h = go t
  where
    go : (t : Bool) → T (le (inf true) (inf t))
    go true = unfold le in tt
    go false = unfold le in tt
at_most (inf false) (inf true) p q h = absurd (true≢false h)
at_most (inf false) (inf false) p q h = tt
at_most (inf true) (fin t n d) p q h = tt
at_most (inf false) (fin t n d) p q h = absurd (true≢false h)
at_most (fin s m e) nan p q h = absurd q
at_most (fin s m e) (inf true) p q h = absurd (true≢false h)
at_most (fin s m e) (inf false) p q h = tt
at_most (fin s m e) (fin t n d) p q h =
    signed_of s (m * up e * down d) t (n * up d * down e)
    (below_of t (n * up d * down e) s (m * up e * down d) (subst (λ (c : Bool). T (not c)) (sym h) tt))

pub not_under : (x y : Float) → T (le x y) → lt y x ≡ false
unfolding le lt eq
not_under nan y h = absurd h
not_under (inf s) nan h = absurd h
not_under (inf true) (inf true) h = refl
not_under (inf true) (inf false) h = refl
not_under (inf false) (inf true) h = absurd h
not_under (inf false) (inf false) h = refl
not_under (inf true) (fin t n d) h = refl
not_under (inf false) (fin t n d) h = absurd h
not_under (fin s m e) nan h = absurd h
not_under (fin s m e) (inf true) h = absurd h
not_under (fin s m e) (inf false) h = refl
not_under (fin s m e) (fin t n d) h = go (below t (n * up d * down e) s (m * up e * down d)) (below_to t (n * up d * down e) s (m * up e * down d))
  where
    go : (b : Bool) → (T b → above t (n * up d * down e) + under s (m * up e * down d) < above s (m * up e * down d) + under t (n * up d * down e)) → b ≡ false
    go true k = let u = k tt in let v = signed_to s (m * up e * down d) t (n * up d * down e) h in absurd (omega arith)
    go false k = refl

-- ---- turned round by a change of sign

turned : (s : Bool) (a : ℕ) → (above (not s) a ≡ under s a) × (under (not s) a ≡ above s a)
turned true a = (refl, refl)
turned false a = (refl, refl)

pub le_neg : (x y : Float) → T (le x y) → T (le (neg y) (neg x))
unfolding le lt eq neg
le_neg nan y h = absurd h
le_neg (inf s) nan h = absurd h
le_neg (inf true) (inf true) h = tt
le_neg (inf true) (inf false) h = tt
le_neg (inf false) (inf true) h = absurd h
le_neg (inf false) (inf false) h = tt
le_neg (inf true) (fin t n d) h = tt
le_neg (inf false) (fin t n d) h = absurd h
le_neg (fin s m e) nan h = absurd h
le_neg (fin s m e) (inf true) h = absurd h
le_neg (fin s m e) (inf false) h = tt
le_neg (fin s m e) (fin t n d) h =
    let a = m * up e * down d in
    let b = n * up d * down e in
    let k = signed_to s a t b h in
    let u = turned s a in
    let v = turned t b in
    signed_of (not t) b (not s) a (omega arith)

-- ---- what a comparison shows

pub lt_le : (x y : Float) → lt x y ≡ true → T (le x y)
unfolding le
lt_le x y h = or_left (lt x y) (eq x y) (subst T (sym h) tt)

pub le_self : (x : Float) → T (number x) → T (le x x)
unfolding le lt eq
le_self nan h = absurd h
le_self (inf true) h = tt
le_self (inf false) h = tt
le_self (fin s m e) h = signed_of s (m * up e * down e) s (m * up e * down e) (omega arith)

pub le_number : (x y : Float) → T (le x y) → T (number y)
unfolding le lt eq
le_number nan y h = absurd h
le_number (inf s) nan h = absurd h
le_number (inf s) (inf t) h = tt
le_number (inf s) (fin t n d) h = tt
le_number (fin s m e) nan h = absurd h
le_number (fin s m e) (inf t) h = tt
le_number (fin s m e) (fin t n d) h = tt

pub least_of_all : (y : Float) → T (number y) → T (le (inf true) y)
unfolding le lt eq
least_of_all nan h = absurd h
least_of_all (inf true) h = tt
least_of_all (inf false) h = tt
least_of_all (fin t n d) h = tt

pub greatest_of_all : (x : Float) → T (number x) → T (le x (inf false))
unfolding le lt eq
greatest_of_all nan h = absurd h
greatest_of_all (inf true) h = tt
greatest_of_all (inf false) h = tt
greatest_of_all (fin s m e) h = tt

pub neg_number : (x : Float) → T (number x) → T (number (neg x))
unfolding neg
neg_number nan h = absurd h
neg_number (inf s) h = tt
neg_number (fin s m e) h = tt
