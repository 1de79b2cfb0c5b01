-- Exact distances. A finite value x lies a / c above m, over whole numbers; what the code computes of it is then the same as of a / c rounded; and the exact
-- point with the whole weights v and w of two ends has an exact distance too, which depends on the point alone. Assumes nothing.
use mathlib.Core.Path.{◌≡◌, refl, sym, ap, ap₂, ◌∙◌}
use mathlib.Core.Logic.{◌⊎◌, inl, inr}
use mathlib.Core.Bool.{true, false}
use Prim.Native.Nat.{ℕ, ◌+◌, ◌-◌, ◌*◌, ◌≤◌, ◌<◌}
use native.Mathlib.Nat.{le_trans, le_of_eq, le_antisymm, mul_comm, mul_assoc, mul_left_comm, mul-pos, add-mul, zero-mul, eq_of_mul-eq-mul_right, mul-le-mul_right, le_of_mul-le-mul_right}
use native.Mathlib.Omega.{arith}
use lib.IntN.{pos}
use lib.Dec.{T, lit<}
use lib.Ieee.{Float, nan, inf, fin, Format, round, neg, sub, div, to_unsigned}
use lib.Ieee.Scale.{finite, round_same}
use lib.Ieee.Positive.{num, den, den_pos, positive}
use Rattle.numbers.proofs.Values.{neg_round}
use Rattle.numbers.proofs.FloatOrder.{plus, minus, Cross, neg_finite}
use Rattle.numbers.proofs.FloatSum.{Rounds, over, short, add_rounds, zero_is}
use Rattle.numbers.proofs.FloatQuotient.{num_pos}
use Rattle.numbers.proofs.FloatQuotient as signed
use Rattle.numbers.proofs.FloatFractions.{clear, round_clear, div_own}

-- ---- a difference rounds its exact value

-- x = m + a / c exactly
pub record Apart (x m : Float) (a c : ℕ) : Type 0 where
  pub known : T (finite x)
  pub origin : T (finite m)
  pub is : plus x * den m * c + minus m * den x * c ≡ minus x * den m * c + plus m * den x * c + a * (den x * den m)

neg_parts : (m : Float) → (plus (neg m) ≡ minus m) × (minus (neg m) ≡ plus m) × (den (neg m) ≡ den m)
unfolding neg
neg_parts nan = (refl, refl, refl)
neg_parts (inf s) = (refl, refl, refl)
neg_parts (fin true m e) = (refl, refl, refl)
neg_parts (fin false m e) = (refl, refl, refl)

sub_rounds : (f : Format) (x m : Float) → T (finite x) → T (finite m) → Rounds f (sub f x m) (plus x * den m + minus m * den x) (minus x * den m + plus m * den x) (den x * den m)
unfolding sub
sub_rounds f x m p q =
    let k = neg_parts m in
    rw (← k.0, ← k.1, ← k.2) (add_rounds f x (neg m) p (neg_finite m q))

pub none : (f : Format) (c : ℕ) → 0 < c → round f false 0 c ≡ fin false 0 (pos 0)
none f c C = round_same f false 0 c 0 1 C (lit< tt) (omega arith) ∙ zero_is f

none_neg : (f : Format) (c : ℕ) → 0 < c → round f true 0 c ≡ fin true 0 (pos 0)
none_neg f c C = sym (neg_round f false 0 c) ∙ ap neg (none f c C) ∙ (unfold neg in refl)

over_same : (P N C a c : ℕ) → N ≤ P → P * c ≡ N * c + a * C → (P - N) * c ≡ a * C
over_same P N C a c l h = go (P - N) (omega arith)
  where
    go : (k : ℕ) → P ≡ N + k → k * c ≡ a * C
    go k e = let h' : (N + k) * c ≡ N * c + a * C = rw e at h in omega arith

short_none : (P N C a c : ℕ) → 0 < c → 0 < C → P ≤ N → P * c ≡ N * c + a * C → (N - P ≡ 0) × (a ≡ 0)
short_none P N C a c pc pC l h =
    let k : P * c ≤ N * c = mul-le-mul_right c l in
    let u : a * C ≡ 0 * C = omega arith in
    let v : P * c ≡ N * c = omega arith in
    let w : P ≡ N = eq_of_mul-eq-mul_right c pc P N v in
    (omega arith, eq_of_mul-eq-mul_right C pC a 0 u)

-- the difference is a / c rounded; where a is 0 it may be minus zero
pub sub_is : (f : Format) (x m : Float) (a c : ℕ) → 0 < c → Apart x m a c → (sub f x m ≡ round f false a c) ⊎ ((sub f x m ≡ fin true 0 (pos 0)) × (a ≡ 0))
sub_is f x m a c C p = go (sub_rounds f x m p.known p.origin)
  where
    D : 0 < den x * den m
    D = mul-pos (den_pos x) (den_pos m)

    joined : (plus x * den m + minus m * den x) * c ≡ (minus x * den m + plus m * den x) * c + a * (den x * den m)
    joined = let h = p.is in omega arith

    go : Rounds f (sub f x m) (plus x * den m + minus m * den x) (minus x * den m + plus m * den x) (den x * den m) → (sub f x m ≡ round f false a c) ⊎ ((sub f x m ≡ fin true 0 (pos 0)) × (a ≡ 0))
    go (over l e) =
        inl
        (e ∙ round_same f false (plus x * den m + minus m * den x - (minus x * den m + plus m * den x)) (den x * den m) a c D C
        (over_same (plus x * den m + minus m * den x) (minus x * den m + plus m * den x) (den x * den m) a c l joined))
    go (short l e) =
        let k = short_none (plus x * den m + minus m * den x) (minus x * den m + plus m * den x) (den x * den m) a c C D l joined in
        inr (e ∙ ap (λ (z : ℕ). round f true z (den x * den m)) k.0 ∙ none_neg f (den x * den m) D, k.1)

-- ---- the fine coordinate is that of the exact distance

-- what the code computes, by the fine unit d, of a coordinate, and of a distance
unfoldable pub fine_of : Format → Float → Float → Float → ℕ
fine_of f d m x = to_unsigned 64 (div f (sub f x m) d)

unfoldable pub fine_at : Format → Float → ℕ → ℕ → ℕ
fine_at f d a c = to_unsigned 64 (div f (round f false a c) d)

cut_minus : (w : ℕ) (x : Float) → T (clear x) → to_unsigned w (neg x) ≡ 0
unfolding to_unsigned neg
cut_minus w nan t = absurd t
cut_minus w (inf true) t = absurd t
cut_minus w (inf false) t = refl
cut_minus w (fin true m e) t = absurd t
cut_minus w (fin false m e) t = refl

-- minus zero, divided, is not above zero
pub minus_over : (f : Format) (d : Float) → T (positive d) → div f (fin true 0 (pos 0)) d ≡ neg (round f false (0 * 1 * den d) (num d * 1))
minus_over f d p = signed.div_is f true 0 (pos 0) d p ∙ sym (neg_round f false (0 * 1 * den d) (num d * 1))

div_minus : (f : Format) (w : ℕ) (d : Float) → T (positive d) → to_unsigned w (div f (fin true 0 (pos 0)) d) ≡ 0
div_minus f w d p = ap (to_unsigned w) (minus_over f d p) ∙ cut_minus w (round f false (0 * 1 * den d) (num d * 1)) (round_clear f (0 * 1 * den d) (num d * 1))

-- zero, divided, is zero
pub none_over : (f : Format) (d : Float) → T (positive d) → div f (fin false 0 (pos 0)) d ≡ fin false 0 (pos 0)
none_over f d p = div_own f (fin false 0 (pos 0)) d tt p ∙ nothing (den d) (num d * 1) (mul-pos (num_pos d p) (lit< tt))
  where
    nothing : (x y : ℕ) → 0 < y → round f false (0 * x) y ≡ fin false 0 (pos 0)
    nothing x y Y = ap (λ (z : ℕ). round f false z y) (zero-mul x) ∙ none f y Y

fine_zero : (f : Format) (d : Float) (c : ℕ) → T (positive d) → 0 < c → fine_at f d 0 c ≡ 0
unfolding fine_at
fine_zero f d c p C = ap (λ (x : Float). to_unsigned 64 (div f x d)) (none f c C) ∙ ap (to_unsigned 64) (none_over f d p) ∙ (unfold to_unsigned in refl)

pub fine_of_lem : (f : Format) (d m x : Float) (a c : ℕ) → T (positive d) → 0 < c → Apart x m a c → fine_of f d m x ≡ fine_at f d a c
unfolding fine_of fine_at
fine_of_lem f d m x a c q C p = elim (sub_is f x m a c C p) [
  | inl e ↦ ap (λ (z : Float). to_unsigned 64 (div f z d)) e
  | inr k ↦ ap (λ (z : Float). to_unsigned 64 (div f z d)) k.0 ∙ div_minus f 64 d q ∙ sym (ap (λ (z : ℕ). fine_at f d z c) k.1 ∙ fine_zero f d c q C)
]

pub fine_same : (f : Format) (d : Float) (a c a' c' : ℕ) → 0 < c → 0 < c' → a * c' ≡ a' * c → fine_at f d a c ≡ fine_at f d a' c'
unfolding fine_at
fine_same f d a c a' c' C C' h = ap (λ (x : Float). to_unsigned 64 (div f x d)) (round_same f false a c a' c' C C' h)

-- ---- every value that is not below m has an exact distance

abbrev pub gap : Float → Float → ℕ
gap x m = plus x * den m + minus m * den x - (minus x * den m + plus m * den x)

gap_is : (p l p' l' dx dm k : ℕ) → p' * dx + l * dm ≤ p * dm + l' * dx
    → p * dm * (dx * dm * k) + l' * dx * (dx * dm * k) ≡ l * dm * (dx * dm * k) + p' * dx * (dx * dm * k) + (p * dm + l' * dx - (l * dm + p' * dx)) * k * (dx * dm)
gap_is p l p' l' dx dm k h = go (p * dm + l' * dx - (l * dm + p' * dx)) (omega arith)
  where
    go : (g : ℕ) → p * dm + l' * dx ≡ l * dm + p' * dx + g
        → p * dm * (dx * dm * k) + l' * dx * (dx * dm * k) ≡ l * dm * (dx * dm * k) + p' * dx * (dx * dm * k) + g * k * (dx * dm)
    go g e =
        let t : (p * dm + l' * dx) * (dx * dm * k) ≡ (l * dm + p' * dx + g) * (dx * dm * k) = ap (λ (z : ℕ). z * (dx * dm * k)) e in
        omega arith

pub apart_of : (x m : Float) (k : ℕ) → T (finite x) → T (finite m) → Cross m x → Apart x m (gap x m * k) (den x * den m * k)
apart_of x m k p q h = record { known = p; origin = q; is = gap_is (plus x) (minus x) (plus m) (minus m) (den x) (den m) k h }

-- ---- exact numbers, as signed fractions (P - N) / D and (P' - N') / D': of two the lesser has the lesser offset from m, and equal ones have one
pub record Off (m : Float) (P N D U c : ℕ) : Type 0 where
  pub is : P * den m * c + minus m * D * c ≡ N * den m * c + plus m * D * c + U * (D * den m)

spread : (p q n r u k : ℕ) → p + q ≡ n + r + u → p * k + q * k ≡ n * k + r * k + u * k
spread p q n r u k h = let t : (p + q) * k ≡ (n + r + u) * k = ap (λ (z : ℕ). z * k) h in omega arith

pub spread_le : (p q n r k : ℕ) → p + q ≤ n + r → p * k + q * k ≤ n * k + r * k
spread_le p q n r k h = let t : (p + q) * k ≤ (n + r) * k = mul-le-mul_right k h in omega arith

line_up : (p q n r u p' q' n' r' u' x y x' y' : ℕ) → p + q ≡ n + r + u → p' + q' ≡ n' + r' + u' → q ≡ q' → r ≡ r' → x + y' ≤ x' + y → p ≡ x → n ≡ y → p' ≡ x' → n' ≡ y' → u ≤ u'
line_up p q n r u p' q' n' r' u' x y x' y' a b c d e f g h k = omega arith

le_off : (dm lm pm P N D U c P' N' D' U' c' : ℕ) → 0 < dm → 0 < D → 0 < D'
    → P * dm * c + lm * D * c ≡ N * dm * c + pm * D * c + U * (D * dm)
    → P' * dm * c' + lm * D' * c' ≡ N' * dm * c' + pm * D' * c' + U' * (D' * dm)
    → P * D' + N' * D ≤ P' * D + N * D'
    → U * c' ≤ U' * c
le_off dm lm pm P N D U c P' N' D' U' c' M X X' a b e =
    let k = D' * c' in
    let k' = D * c in
    let j = dm * c * c' in
    let t : U * (D * dm) * k ≤ U' * (D' * dm) * k' =
    line_up (P * dm * c * k) (lm * D * c * k) (N * dm * c * k) (pm * D * c * k) (U * (D * dm) * k) (P' * dm * c' * k') (lm * D' * c' * k') (N' * dm * c' * k') (pm * D' * c' * k') (U' * (D' * dm) * k')
    (P * D' * j) (N * D' * j) (P' * D * j) (N' * D * j)
    (spread (P * dm * c) (lm * D * c) (N * dm * c) (pm * D * c) (U * (D * dm)) k a)
    (spread (P' * dm * c') (lm * D' * c') (N' * dm * c') (pm * D' * c') (U' * (D' * dm)) k' b)
    (simp (mul_assoc, mul_comm, mul_left_comm)) (simp (mul_assoc, mul_comm, mul_left_comm))
    (spread_le (P * D') (N' * D) (P' * D) (N * D') j e)
    (simp (mul_assoc, mul_comm, mul_left_comm)) (simp (mul_assoc, mul_comm, mul_left_comm)) (simp (mul_assoc, mul_comm, mul_left_comm)) (simp (mul_assoc, mul_comm, mul_left_comm)) in
    let l : U * c' * (D * D' * dm) ≡ U * (D * dm) * k = simp (mul_assoc, mul_comm, mul_left_comm) in
    let r : U' * (D' * dm) * k' ≡ U' * c * (D * D' * dm) = simp (mul_assoc, mul_comm, mul_left_comm) in
    le_of_mul-le-mul_right (le_trans (le_of_eq l) (le_trans t (le_of_eq r))) (mul-pos (mul-pos X X') M)

module _ (m : Float) (P N D U c P' N' D' U' c' : ℕ) (X : 0 < D) (X' : 0 < D') (a : Off m P N D U c) (b : Off m P' N' D' U' c') where
  pub off_le : P * D' + N' * D ≤ P' * D + N * D' → U * c' ≤ U' * c
  off_le e = le_off (den m) (minus m) (plus m) P N D U c P' N' D' U' c' (den_pos m) X X' a.is b.is e

  off_ge : P' * D + N * D' ≤ P * D' + N' * D → U' * c ≤ U * c'
  off_ge e = le_off (den m) (minus m) (plus m) P' N' D' U' c' P N D U c (den_pos m) X' X b.is a.is e

  pub off_same : P * D' + N' * D ≡ P' * D + N * D' → U * c' ≡ U' * c
  off_same e = le_antisymm (off_le (le_of_eq e)) (off_ge (le_of_eq (sym e)))

-- ---- the point with the weights v and w of two ends x and y: the signed fraction (meanP - meanN) / meanD, and its offset
abbrev pub mean_p : ℕ → ℕ → Float → Float → ℕ
mean_p v w x y = v * (plus x * den y) + w * (plus y * den x)

abbrev pub mean_n : ℕ → ℕ → Float → Float → ℕ
mean_n v w x y = v * (minus x * den y) + w * (minus y * den x)

abbrev pub mean_d : ℕ → ℕ → Float → Float → ℕ
mean_d v w x y = (v + w) * (den x * den y)

-- times q
outer : (X Y Z U q dm lm pm c : ℕ) → X * dm * c + lm * (q * Z) * c ≡ Y * dm * c + pm * (q * Z) * c + U * (Z * dm)
    → X * dm * (q * c) + lm * (q * Z) * (q * c) ≡ Y * dm * (q * c) + pm * (q * Z) * (q * c) + U * (q * Z * dm)
outer X Y Z U q dm lm pm c h =
    let t = spread (X * dm * c) (lm * (q * Z) * c) (Y * dm * c) (pm * (q * Z) * c) (U * (Z * dm)) q h in
    let a : X * dm * c * q ≡ X * dm * (q * c) = simp (mul_assoc, mul_comm, mul_left_comm) in
    let b : lm * (q * Z) * c * q ≡ lm * (q * Z) * (q * c) = simp (mul_assoc, mul_comm, mul_left_comm) in
    let d : Y * dm * c * q ≡ Y * dm * (q * c) = simp (mul_assoc, mul_comm, mul_left_comm) in
    let e : pm * (q * Z) * c * q ≡ pm * (q * Z) * (q * c) = simp (mul_assoc, mul_comm, mul_left_comm) in
    let g : U * (Z * dm) * q ≡ U * (q * Z * dm) = simp (mul_assoc, mul_comm, mul_left_comm) in
    five (X * dm * c * q) (lm * (q * Z) * c * q) (Y * dm * c * q) (pm * (q * Z) * c * q) (U * (Z * dm) * q) (X * dm * (q * c)) (lm * (q * Z) * (q * c)) (Y * dm * (q * c)) (pm * (q * Z) * (q * c)) (U * (q * Z * dm)) a b d e g t
  where
    five : (p q' n r u p' q'' n' r' u' : ℕ) → p ≡ p' → q' ≡ q'' → n ≡ n' → r ≡ r' → u ≡ u' → p + q' ≡ n + r + u → p' + q'' ≡ n' + r' + u'
    five p q' n r u p' q'' n' r' u' a b c' d e h' = omega arith

-- v times the first and w times the second, term by term
both_one : (v w m k : ℕ) → m * ((v + w) * k) ≡ m * v * k + m * w * k
both_one v w m k = omega arith

sum_up : (p q n r u p' q' n' r' u' A B C D E : ℕ) → p + q ≡ n + r + u → p' + q' ≡ n' + r' + u' → A ≡ p + p' → B ≡ q + q' → C ≡ n + n' → D ≡ r + r' → E ≡ u + u' → A + B ≡ C + D + E
sum_up p q n r u p' q' n' r' u' A B C D E a b c d e f g = omega arith

module _ (v w dx dy dm c : ℕ) where
  -- a sum of the parts above zero, or of those below
  ends_sum : (s t : ℕ) → (v * (s * dy) + w * (t * dx)) * dm * c ≡ s * dm * c * (v * dy) + t * dm * c * (w * dx)
  ends_sum s t =
      let a : s * dm * c * (v * dy) ≡ v * (s * dy) * dm * c = simp (mul_assoc, mul_comm, mul_left_comm) in
      let b : t * dm * c * (w * dx) ≡ w * (t * dx) * dm * c = simp (mul_assoc, mul_comm, mul_left_comm) in
      let e : (v * (s * dy) + w * (t * dx)) * dm * c ≡ v * (s * dy) * dm * c + w * (t * dx) * dm * c =
      ap (λ (z : ℕ). z * c) (add-mul (v * (s * dy)) (w * (t * dx)) dm) ∙ add-mul (v * (s * dy) * dm) (w * (t * dx) * dm) c in
      e ∙ ap₂ (λ (y z : ℕ). y + z) (sym a) (sym b)

  origin_sum : (m : ℕ) → m * ((v + w) * (dx * dy)) * c ≡ m * dx * c * (v * dy) + m * dy * c * (w * dx)
  origin_sum m =
      let a : m * dx * c * (v * dy) ≡ m * v * (dx * dy) * c = simp (mul_assoc, mul_comm, mul_left_comm) in
      let b : m * dy * c * (w * dx) ≡ m * w * (dx * dy) * c = simp (mul_assoc, mul_comm, mul_left_comm) in
      ap (λ (z : ℕ). z * c) (both_one v w m (dx * dy)) ∙ add-mul (m * v * (dx * dy)) (m * w * (dx * dy)) c ∙ ap₂ (λ (y z : ℕ). y + z) (sym a) (sym b)

  offset_sum : (a b : ℕ) → (v * a + w * b) * (dx * dy * dm) ≡ a * (dx * dm) * (v * dy) + b * (dy * dm) * (w * dx)
  offset_sum a b =
      let p : a * (dx * dm) * (v * dy) ≡ v * a * (dx * dy * dm) = simp (mul_assoc, mul_comm, mul_left_comm) in
      let q : b * (dy * dm) * (w * dx) ≡ w * b * (dx * dy * dm) = simp (mul_assoc, mul_comm, mul_left_comm) in
      add-mul (v * a) (w * b) (dx * dy * dm) ∙ ap₂ (λ (y z : ℕ). y + z) (sym p) (sym q)

  inner : (px lx py ly lm pm a b : ℕ)
      → px * dm * c + lm * dx * c ≡ lx * dm * c + pm * dx * c + a * (dx * dm)
      → py * dm * c + lm * dy * c ≡ ly * dm * c + pm * dy * c + b * (dy * dm)
      → (v * (px * dy) + w * (py * dx)) * dm * c + lm * ((v + w) * (dx * dy)) * c
      ≡ (v * (lx * dy) + w * (ly * dx)) * dm * c + pm * ((v + w) * (dx * dy)) * c + (v * a + w * b) * (dx * dy * dm)
  inner px lx py ly lm pm a b h k =
      sum_up (px * dm * c * (v * dy)) (lm * dx * c * (v * dy)) (lx * dm * c * (v * dy)) (pm * dx * c * (v * dy)) (a * (dx * dm) * (v * dy))
      (py * dm * c * (w * dx)) (lm * dy * c * (w * dx)) (ly * dm * c * (w * dx)) (pm * dy * c * (w * dx)) (b * (dy * dm) * (w * dx))
      ((v * (px * dy) + w * (py * dx)) * dm * c) (lm * ((v + w) * (dx * dy)) * c) ((v * (lx * dy) + w * (ly * dx)) * dm * c) (pm * ((v + w) * (dx * dy)) * c) ((v * a + w * b) * (dx * dy * dm))
      (spread (px * dm * c) (lm * dx * c) (lx * dm * c) (pm * dx * c) (a * (dx * dm)) (v * dy) h)
      (spread (py * dm * c) (lm * dy * c) (ly * dm * c) (pm * dy * c) (b * (dy * dm)) (w * dx) k)
      (ends_sum px py) (origin_sum lm) (ends_sum lx ly) (origin_sum pm) (offset_sum a b)

-- the point is its offset from m, exactly
pub mean_off : (m x y : Float) (v w a b c : ℕ) → Apart x m a c → Apart y m b c → Off m (mean_p v w x y) (mean_n v w x y) (mean_d v w x y) (v * a + w * b) ((v + w) * c)
mean_off m x y v w a b c p q = record {
  is = outer (mean_p v w x y) (mean_n v w x y) (den x * den y) (v * a + w * b) (v + w) (den m) (minus m) (plus m) c
      (inner v w (den x) (den y) (den m) c (plus x) (minus x) (plus y) (minus y) (minus m) (plus m) a b p.is q.is);
}
