-- Where Grid and GeosCompat part: of a coordinate and a snap size that are not refused, exactly where |v / size| is the largest float below one half.
-- There Grid gives a zero and GeosCompat the size, both with the sign of v / size. So they never differ in the sign of a zero alone. Assumes nothing.
use mathlib.Core.Path.{◌≡◌, refl, sym, ap, ap₂, ◌∙◌, subst}
use Prim.Native.Nat.{ℕ, zero, suc, ◌+◌, ◌*◌, ◌/◌, ◌^◌, ◌≤◌, ◌<◌}
use native.Mathlib.Nat.{le_of_lt, mul-one, one-mul, mul_comm, mul-pos, mul-le-mul_right, zero-lt-suc, div-mul-le_self, div-lt_iff_lt-mul}
use native.Mathlib.Omega.{arith}
use mathlib.Core.Bool.{Bool, true, false, ◌&&◌, ◌||◌, cond, true≢false}
use borrow.Author.Tests.{eqb-true, ne_eqb, eq-eqb}
use Rattle.grid.proofs.Bools.{and_left, and_both}
use lib.Dec.{T, eqb, eqb→eq, lit≤, lit<}
use lib.IntN.{ℤ, pos, negsuc}
use lib.Ieee.{Float, nan, inf, fin, Format, binary64, up, down, unlike, round, neg, add, mul, div, le, eq, fits, of_bits, to_bits}
use lib.Ieee.Bits.{of_bits-to_bits}
use lib.Ieee.Exact.{HasValue}
use lib.Ieee.Fits.{down_pos, up_pos, and_l, and_r, div-fits}
use lib.Ieee.Order.{round_mono}
use lib.Ieee.Scale.{round_same, finite, round_val, round_under}
use lib.Ieee.Positive.{num, den, positive, between, le→cross}
use Rattle.numbers.specs.Order.{magnitude_of}
use Rattle.numbers.specs.Away.{round_away}
use Rattle.numbers.specs.Floor.{floor_of}
use Rattle.numbers.proofs.Values.{value_unique, fits_says, neg_round, round_back}
use Rattle.numbers.proofs.Sums.{sum_at_lem, unit_at}
use Rattle.numbers.proofs.Tests.{le_says}
use Rattle.numbers.proofs.OrderLaws.{magnitude_finite}
use Rattle.numbers.proofs.WholeLaws.{counted, counted_value}
use Rattle.numbers.proofs.FloatSum.{zero_le}
use Rattle.numbers.proofs.FloatQuotient.{div_is, num_pos}
use Rattle.grid.specs.Domain.{coordinate}
use Rattle.snap.specs.Snap.{snap_size, grid_snap, snap_of}
use Rattle.snap.specs.Strategies.{sign_one, geos_snap, geos_of, same_bits}
use Rattle.snap.proofs.HalfSums.{Under, floor_rounded, under_whole, under_fraction}

-- the largest float below one half: 0.49999999999999994
abbrev pub below_half : Float
below_half = fin false 9007199254740991 (negsuc 53)

-- ---- found by two tests, one for each sign

pub above_zero : (q : Float) → eq q below_half ≡ true → eq (magnitude_of q) below_half ≡ true
unfolding eq magnitude_of
above_zero nan h = h
above_zero (inf s) h = h
above_zero (fin s m e) h = and_both _ true (and_left (eqb (m * up e * 2 ^ 54) (9007199254740991 * down e)) _ h) refl

pub below_zero : (q : Float) → eq q (neg below_half) ≡ true → eq (magnitude_of q) below_half ≡ true
unfolding eq magnitude_of neg
below_zero nan h = h
below_zero (inf s) h = h
below_zero (fin s m e) h = and_both _ true (and_left (eqb (m * up e * 2 ^ 54) (9007199254740991 * down e)) _ h) refl

pub neither : (q : Float) → eq q below_half ≡ false → eq q (neg below_half) ≡ false → eq (magnitude_of q) below_half ≡ false
unfolding eq magnitude_of neg
neither nan h k = h
neither (inf s) h k = h
neither (fin false m e) h k = h
neither (fin true m e) h k = k

-- ---- the quotient is below 2 ^ 52

abbrev Below : Float → Type 0
Below q = T (finite q) × (num q < 2 ^ 52 * den q)

-- rounding, whatever the sign
below_neg : (q : Float) → Below q → Below (neg q)
unfolding neg
below_neg nan h = h
below_neg (inf s) h = h
below_neg (fin s m e) h = h

below_round : (f : Format) (s : Bool) (a c : ℕ) → Below (round f false a c) → Below (round f s a c)
below_round f false a c h = h
below_round f true a c h = subst (λ (x : Float). Below x) (neg_round f false a c) (below_neg (round f false a c) h)

finite_between : (x b : Float) → T (finite b) → T (le (fin false 0 (pos 0)) x) → T (le x b) → T (finite x)
unfolding le
finite_between nan b p h k = absurd k
finite_between (inf true) b p h k = absurd h
finite_between (inf false) nan p h k = absurd p
finite_between (inf false) (inf t) p h k = absurd p
finite_between (inf false) (fin t n g) p h k = absurd k
finite_between (fin s m e) b p h k = tt

half_power : round binary64 false (2 ^ 51) 1 ≡ fin false 1 (pos 51)
unfolding round
half_power = refl

under_power : (x : Float) (g d : ℕ) → HasValue x false g d → T (le x (fin false 1 (pos 51))) → Below x
under_power nan g d h k = absurd h
under_power (inf s) g d h k = absurd h
under_power (fin true m e) g d h k = absurd (true≢false h.0)
under_power (fin false m e) g d h k = (tt, less (m * up e) (down e) (down_pos e) (le_says m e 1 (pos 51) k))
  where
    less : (x d : ℕ) → 0 < d → x * 1 ≤ 1 * 2251799813685248 * d → x < 4503599627370496 * d
    less x d p h = omega arith

below_of : (a c : ℕ) → 0 < c → a ≤ 2251799813685248 * c → Below (round binary64 false a c)
below_of a c C h =
    let r = round binary64 false a c in
    let k : T (le r (fin false 1 (pos 51))) = subst (λ (x : Float). T (le r x)) half_power (round_mono binary64 a c (2 ^ 51) 1 C (zero-lt-suc 0) (rw mul-one h)) in
    let p : T (finite r) = finite_between r (fin false 1 (pos 51)) tt (zero_le binary64 a c C) k in
    under_power r _ _ (round_val binary64 a c (round_under binary64 a c p)) k

-- the bounds of document 01's domain
largest : round binary64 false 1000000000 1 ≡ fin false 1953125 (pos 9)
unfolding round
largest = refl

least : round binary64 false 1 1000000 ≡ fin false 4722366482869645 (negsuc 71)
unfolding round
least = refl

most : round binary64 false 1000000 1 ≡ fin false 15625 (pos 6)
unfolding round
most = refl

-- M / D is at most 1e9, and N / C at least 1e-6
ratio : (M D N C : ℕ) → M ≤ 1000000000 * D → 4722366482869645 * C ≤ N * 4722366482869645213696 → M * C ≤ 2251799813685248 * (N * D)
ratio M D N C h k =
    let c : C ≤ 1000001 * N = omega arith in
    let a : M * C ≤ 1000000000 * D * C = mul-le-mul_right C h in
    let b : C * D ≤ 1000001 * N * D = mul-le-mul_right D c in
    omega arith

-- a snap size other than 0
pub sized : (size : Float) → T (snap_size size) → eq size (round binary64 false 0 1) ≡ false → T (le (round binary64 false 1 1000000) size) × T (le size (round binary64 false 1000000 1))
unfolding snap_size
sized size h z = let k = either (eq size (round binary64 false 0 1)) (low && high) h z in (and_l low high k, and_r low high k)
  where
    low : Bool
    low = le (round binary64 false 1 1000000) size

    high : Bool
    high = le size (round binary64 false 1000000 1)

    either : (a b : Bool) → T (a || b) → a ≡ false → T b
    either true b h z = absurd (true≢false z)
    either false b h z = h

pub size_positive : (size : Float) → T (snap_size size) → eq size (round binary64 false 0 1) ≡ false → T (positive size)
size_positive size h z =
    let k = sized size h z in
    between (fin false 4722366482869645 (negsuc 71)) size (fin false 15625 (pos 6)) tt tt
    (subst (λ (x : Float). T (le x size)) least k.0) (subst (λ (x : Float). T (le size x)) most k.1)

below_quotient : (v size : Float) → T (coordinate v) → T (snap_size size) → eq size (round binary64 false 0 1) ≡ false → Below (div binary64 v size)
unfolding coordinate magnitude_of
below_quotient v size h k z = go v (magnitude_finite v 1e9 tt within) within
  where
    1e9 : Float
    1e9 = fin false 1953125 (pos 9)

    1e-6 : Float
    1e-6 = fin false 4722366482869645 (negsuc 71)

    within : T (le (magnitude_of v) 1e9)
    within = subst (λ (x : Float). T (le (magnitude_of v) x)) largest h

    s+ : T (positive size)
    s+ = size_positive size k z

    up : 4722366482869645 * den size ≤ num size * 4722366482869645213696
    up = le→cross 1e-6 size tt s+ (subst (λ (x : Float). T (le x size)) least (sized size k z).0)

    go : (w : Float) → T (finite w) → T (le (magnitude_of w) 1e9) → Below (div binary64 w size)
    go nan p l = absurd p
    go (inf s) p l = absurd p
    go (fin s m e) p l = subst (λ (x : Float). Below x) (sym (div_is binary64 s m e size s+)) (below_round binary64 (unlike s false) (num (fin s m e) * den size) (num size * down e) (below_of _ _ (mul-pos (num_pos size s+) (down_pos e)) (ratio (num (fin s m e)) (down e) (num size) (den size) (plain (num (fin s m e)) (down e) (le_says m e 1953125 (pos 9) l)) up)))
      where
        plain : (x d : ℕ) → x * 1 ≤ 1953125 * 512 * d → x ≤ 1000000000 * d
        plain x d h = omega arith

-- ---- elsewhere the two round alike

-- GeosCompat's whole number, with its sign
abbrev geos_scaled : Float → Float
geos_scaled q = mul binary64 (floor_of (add binary64 (magnitude_of q) (round binary64 false 1 2))) (sign_one q)

half_value : HasValue (round binary64 false 1 2) false 1 2
unfolding round
half_value = (refl, refl)

-- a value that is not below zero times 1 or -1
signed_at : (f : Format) (s : Bool) (x : Float) (a c : ℕ) → 0 < c → HasValue x false a c → mul f x (fin s 1 (pos 0)) ≡ round f s a c
unfolding mul
signed_at f s nan a c C h = absurd h
signed_at f s (inf t) a c C h = absurd h
signed_at f s (fin true m e) a c C h = absurd (true≢false h.0)
signed_at f true (fin false m e) a c C h = round_same f true (m * up e * (1 * 1)) (down e * 1) a c (rw mul-one (down_pos e)) C (ap (λ (z : ℕ). z * c) (mul-one (m * up e)) ∙ h.1 ∙ ap (λ (z : ℕ). a * z) (sym (mul-one (down e))))
signed_at f false (fin false m e) a c C h = round_same f false (m * up e * (1 * 1)) (down e * 1) a c (rw mul-one (down_pos e)) C (ap (λ (z : ℕ). z * c) (mul-one (m * up e)) ∙ h.1 ∙ ap (λ (z : ℕ). a * z) (sym (mul-one (down e))))

sign_is : (s : Bool) (m : ℕ) (e : ℤ) → sign_one (fin s m e) ≡ fin s 1 (pos 0)
unfolding sign_one round
sign_is s m e = refl

few_digits : (s : Bool) (m : ℕ) (e : ℤ) → T (fits binary64 (fin s m e)) → m < 2 ^ 53
few_digits s zero e t = lit≤ tt
few_digits s (suc m) e t = (fits_says binary64 s m e t).0

-- the value that keeps the sum with one half below the next whole number
under : (m : ℕ) (e : ℤ) → m < 2 ^ 53 → m * up e < 2 ^ 52 * down e → (e ≡ negsuc 53 → m ≡ 9007199254740991 → ⊥)
    → Under (2 * (m * up e) + down e) (2 * down e) ((2 * (m * up e) + down e) / (2 * down e))
under m (pos k) few l other = subst (λ (z : ℕ). Under (2 * (m * 2 ^ k) + 1) (2 * 1) z) (same (m * 2 ^ k)) (under_whole (m * 2 ^ k) (subst (λ (z : ℕ). m * 2 ^ k < z) (mul-one (2 ^ 52)) l))
  where
    same : (x : ℕ) → x ≡ (2 * x + 1) / (2 * 1)
    same x = omega arith
under m (negsuc i) few l other = subst (λ (z : ℕ). Under (2 * z + 2 ^ suc i) (2 * 2 ^ suc i) ((2 * z + 2 ^ suc i) / (2 * 2 ^ suc i))) (sym (mul-one m)) (under_fraction m i few (λ (h : i ≡ 53). other (ap negsuc h)))

alike_at : (s : Bool) (m : ℕ) (e : ℤ) → T (fits binary64 (fin s m e)) → m * up e < 2 ^ 52 * down e → (e ≡ negsuc 53 → m ≡ 9007199254740991 → ⊥)
    → geos_scaled (fin s m e) ≡ round_away (fin s m e)
unfolding magnitude_of round_away
alike_at s m e t l other =
    let x = 2 * (m * up e) + down e in
    let y = 2 * down e in
    let n = x / y in
    let D : 0 < y = mul-pos (zero-lt-suc 1) (down_pos e) in
    let sum : add binary64 (fin false m e) (round binary64 false 1 2) ≡ round binary64 false x y =
    sum_at_lem binary64 false (fin false m e) (round binary64 false 1 2) (m * up e) (down e) 1 2 (down_pos e) (zero-lt-suc 1) (refl, refl) half_value
    ∙ ap₂ (λ (a c : ℕ). round binary64 false a c) (plain (m * up e) (down e)) (mul_comm (down e) 2) in
    let floor : floor_of (round binary64 false x y) ≡ counted false n =
    floor_rounded x y n D (half (m * up e) (down e)) (div-mul-le_self x y) (under m e (few_digits s m e t) l other) in
    ap₂ (λ (a c : Float). mul binary64 a c) (ap floor_of sum ∙ floor) (sign_is s m e)
    ∙ signed_at binary64 s (counted false n) n 1 (zero-lt-suc 0) (counted_value false n (le_of_lt ((div-lt_iff_lt-mul D).1 (less (m * up e) (down e) l))))
  where
    plain : (a d : ℕ) → a * 2 + 1 * d ≡ 2 * a + d
    plain a d = omega arith

    half : (a d : ℕ) → 2 * d ≤ 2 * (2 * a + d)
    half a d = omega arith

    less : (a d : ℕ) → a < 4503599627370496 * d → 2 * a + d < 9007199254740992 * (2 * d)
    less a d h = omega arith

itself : (s : Bool) → eq (magnitude_of (fin s 9007199254740991 (negsuc 53))) below_half ≡ true
unfolding eq magnitude_of
itself s = refl

alike : (q : Float) → T (fits binary64 q) → Below q → eq (magnitude_of q) below_half ≡ false → geos_scaled q ≡ round_away q
alike nan t b h = absurd b.0
alike (inf s) t b h = absurd b.0
alike (fin s m e) t b h = alike_at s m e t b.1 (other s m e h)
  where
    other : (s : Bool) (m : ℕ) (e : ℤ) → eq (magnitude_of (fin s m e)) below_half ≡ false → e ≡ negsuc 53 → m ≡ 9007199254740991 → ⊥
    other s m e h i j = absurd (true≢false (sym (ap₂ (λ (a : ℕ) (b : ℤ). eq (magnitude_of (fin s a b)) below_half) j i ∙ itself s) ∙ h))

-- ---- there they part

there : (q : Float) → T (fits binary64 q) → eq (magnitude_of q) below_half ≡ true → (s : Bool) × (q ≡ fin s 9007199254740991 (negsuc 53))
unfolding eq magnitude_of
there nan t h = absurd (true≢false (sym h))
there (inf s) t h = absurd (true≢false (sym h))
there (fin s m e) t h = (s, value_unique binary64 (fin s m e) (fin s 9007199254740991 (negsuc 53)) s 9007199254740991 (2 ^ 54) (lit< tt) t (unfold fits in tt) (refl, cross) (refl, refl))
  where
    cross : m * up e * 2 ^ 54 ≡ 9007199254740991 * down e
    cross = eqb-true _ _ (and_left (eqb (m * up e * 2 ^ 54) (9007199254740991 * down e)) _ h)

away_there : (s : Bool) → round_away (fin s 9007199254740991 (negsuc 53)) ≡ fin s 0 (pos 0)
unfolding round_away round
away_there s = refl

scaled_there : (s : Bool) → geos_scaled (fin s 9007199254740991 (negsuc 53)) ≡ fin s 1 (pos 0)
unfolding floor_of add mul magnitude_of sign_one round
scaled_there true = refl
scaled_there false = refl

zero_times : (s : Bool) (m : ℕ) (e : ℤ) → mul binary64 (fin s 0 (pos 0)) (fin false m e) ≡ fin s 0 (pos 0)
unfolding mul
zero_times true m e = round_back binary64 true 0 (pos 0) (0 * 1 * (m * up e)) (1 * down e) (unfold fits in tt) (rw one-mul (down_pos e)) (omega arith)
zero_times false m e = round_back binary64 false 0 (pos 0) (0 * 1 * (m * up e)) (1 * down e) (unfold fits in tt) (rw one-mul (down_pos e)) (omega arith)

either_fits : (s : Bool) (m : ℕ) (e : ℤ) → T (fits binary64 (fin false (suc m) e)) → T (fits binary64 (fin s (suc m) e))
unfolding fits
either_fits s m e h = h

-- Grid gives a zero and GeosCompat the size, with one sign
record Parted (size v : Float) : Type 0 where
  pub s : Bool
  pub m : ℕ
  pub e : ℤ
  pub grid : snap_of size v ≡ fin s 0 (pos 0)
  pub geos : geos_of size v ≡ fin s (suc m) e
  pub held : T (fits binary64 (fin s (suc m) e))

parted_at : (size v : Float) (s : Bool) → T (fits binary64 size) → T (positive size) → eq size (round binary64 false 0 1) ≡ false → div binary64 v size ≡ fin s 9007199254740991 (negsuc 53)
    → Parted size v
unfolding snap_of geos_of grid_snap geos_snap
parted_at nan v s t p z d = absurd p
parted_at (inf u) v s t p z d = absurd p
parted_at (fin true m e) v s t p z d = absurd p
parted_at (fin false zero e) v s t p z d = absurd p
parted_at (fin false (suc m) e) v s t p z d =
    let size = fin false (suc m) e in
    let by : (f : Float → Float) → cond (eq size (round binary64 false 0 1)) v (mul binary64 (f (div binary64 v size)) size) ≡ mul binary64 (f (fin s 9007199254740991 (negsuc 53))) size =
    λ f. ap (λ (b : Bool). cond b v (mul binary64 (f (div binary64 v size)) size)) z ∙ ap (λ (q : Float). mul binary64 (f q) size) d in
    record {
      s = s;
      m = m;
      e = e;
      grid = by round_away ∙ ap (λ (n : Float). mul binary64 n size) (away_there s) ∙ zero_times s (suc m) e;
      geos =
          by geos_scaled
          ∙ ap (λ (n : Float). mul binary64 n size) (scaled_there s)
          ∙ unit_at binary64 s size (suc m * up e) (down e) (down_pos e) (refl, refl)
          ∙ round_back binary64 s (suc m) e (suc m * up e) (down e) (either_fits s m e t) (down_pos e) refl;
      held = either_fits s m e t;
    }

-- a quotient by 0 is no finite number
no_quotient : (v size : Float) → eq size (round binary64 false 0 1) ≡ true → eq (magnitude_of (div binary64 v size)) below_half ≡ false
unfolding eq magnitude_of div round
no_quotient v nan z = absurd (true≢false (sym z))
no_quotient v (inf t) z = absurd (true≢false (sym z))
no_quotient nan (fin t n g) z = refl
no_quotient (inf s) (fin t n g) z = refl
no_quotient (fin s m e) (fin t n g) z = go (eqb n 0) (eqb m 0) (round binary64 (unlike s t) (m * up e * down g) (n * up g * down e)) (eq-eqb n 0 (none n (up g) (down g) (up_pos g) (eqb-true (n * up g * 1) (0 * 1 * down g) (and_left (eqb (n * up g * 1) (0 * 1 * down g)) _ z))))
  where
    none : (n u d : ℕ) → 0 < u → n * u * 1 ≡ 0 * 1 * d → n ≡ 0
    none zero u d U h = refl
    none (suc n) u d U h = absurd (let k : 0 < suc n * u = mul-pos (zero-lt-suc n) U in omega arith)

    go : (b c : Bool) (x : Float) → b ≡ true → eq (magnitude_of (cond b (cond c nan (inf (unlike s t))) x)) below_half ≡ false
    go true true x h = refl
    go true false x h = refl
    go false c x h = absurd (true≢false (sym h))

parted : (size v : Float) → T (fits binary64 size) → T (snap_size size) → eq (magnitude_of (div binary64 v size)) below_half ≡ true → Parted size v
parted size v t k h = go (eq size (round binary64 false 0 1)) refl
  where
    go : (b : Bool) → eq size (round binary64 false 0 1) ≡ b → Parted size v
    go true z = absurd (true≢false (sym h ∙ no_quotient v size z))
    go false z = let q = there (div binary64 v size) (div-fits binary64 v size) h in parted_at size v q.0 t (size_positive size k z) z q.1

-- ---- the laws

-- THEY DIFFER WHERE |v / size| IS THE LARGEST FLOAT BELOW ONE HALF
pub differ_there : (size v : Float) → T (fits binary64 size) → T (snap_size size) → eq (magnitude_of (div binary64 v size)) below_half ≡ true → same_bits size v ≡ false
unfolding same_bits
differ_there size v t k h =
    let d = parted size v t k h in
    ap₂ (λ (a b : Float). eqb (to_bits binary64 a) (to_bits binary64 b)) d.grid d.geos ∙ ne_eqb _ _ (apart d.s d.m d.e d.held)
  where
    digits : Float → ℕ
    digits nan = 0
    digits (inf s) = 0
    digits (fin s m e) = m

    apart : (s : Bool) (m : ℕ) (e : ℤ) → T (fits binary64 (fin s (suc m) e)) → to_bits binary64 (fin s 0 (pos 0)) ≡ to_bits binary64 (fin s (suc m) e) → ⊥
    apart s m e t h =
        let k : 0 ≡ suc m = ap digits (sym (of_bits-to_bits binary64 (fin s 0 (pos 0)) (unfold fits in tt)) ∙ ap (of_bits binary64) h ∙ of_bits-to_bits binary64 (fin s (suc m) e) t) in
        omega arith

-- AND NOWHERE ELSE
pub agree_elsewhere : (size v : Float) → T (coordinate v) → T (snap_size size) → eq (magnitude_of (div binary64 v size)) below_half ≡ false → same_bits size v ≡ true
unfolding same_bits snap_of geos_of grid_snap geos_snap
agree_elsewhere size v c k h = go (eq size (round binary64 false 0 1)) refl
  where
    q : Float
    q = div binary64 v size

    go : (b : Bool) → eq size (round binary64 false 0 1) ≡ b → eqb (to_bits binary64 (cond b v (mul binary64 (round_away q) size))) (to_bits binary64 (cond b v (mul binary64 (geos_scaled q) size))) ≡ true
    go true z = eq-eqb (to_bits binary64 v) (to_bits binary64 v) refl
    go false z =
        eq-eqb (to_bits binary64 (mul binary64 (round_away q) size)) (to_bits binary64 (mul binary64 (geos_scaled q) size))
        (ap (λ (x : Float). to_bits binary64 (mul binary64 x size)) (sym (alike q (div-fits binary64 v size) (below_quotient v size c k z) h)))

-- NEVER IN THE SIGN OF A ZERO ALONE: results that are equal have the same bits
pub equal_same : (size v : Float) → T (fits binary64 size) → T (coordinate v) → T (snap_size size) → T (eq (snap_of size v) (geos_of size v)) → same_bits size v ≡ true
unfolding eq
equal_same size v t c k h = go (eq (magnitude_of (div binary64 v size)) below_half) refl
  where
    go : (b : Bool) → eq (magnitude_of (div binary64 v size)) below_half ≡ b → same_bits size v ≡ true
    go true e = let d = parted size v t k e in absurd (unequal d.s d.m d.e (subst T (ap₂ (λ (a b : Float). eq a b) d.grid d.geos) h))
      where
        unequal : (s : Bool) (m : ℕ) (e : ℤ) → T (eq (fin s 0 (pos 0)) (fin s (suc m) e)) → ⊥
        unequal s m e h =
            let k : 0 * 1 * down e ≡ suc m * up e * 1 = eqb→eq _ _ (and_l (eqb (0 * 1 * down e) (suc m * up e * 1)) _ h) in
            let l : 0 < suc m * up e = mul-pos (zero-lt-suc m) (up_pos e) in
            omega arith
    go false e = agree_elsewhere size v c k e
