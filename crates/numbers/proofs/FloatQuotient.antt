-- A quotient by a value above zero is the exact quotient, rounded once, and keeps the order of the dividend. Assumes nothing.
use Rattle.std.proofs.Common.{◌≡◌, ℕ, ◌+◌, ◌*◌, ◌<◌, ◌≤◌, Bool, true, false, cond, T, eqb, ℤ, refl, ap, ◌∙◌, mul-le-mul_right, mul-pos, arith, eqb→eq, ltb→lt}
use lib.Ieee.{Float, nan, inf, fin, Format, up, down, unlike, round, div, le}
use lib.Ieee.Fits.{up_pos}
use lib.Ieee.Scale.{finite}
use lib.Ieee.Positive.{num, den, den_pos, positive}
use Rattle.numbers.proofs.FloatOrder.{plus, minus, le→cross}
use Rattle.numbers.proofs.FloatSum.{Rounds, over, short, rounds_mono}

-- ±M / D by N / C
pub div_is : (f : Format) (s : Bool) (m : ℕ) (e : ℤ) (y : Float) → T (positive y) → div f (fin s m e) y ≡ round f (unlike s false) (m * up e * den y) (num y * down e)
unfolding div
div_is f s m e nan p = absurd p
div_is f s m e (inf t) p = absurd p
div_is f s m e (fin true n d) p = absurd p
div_is f s m e (fin false n d) p = go (eqb n 0) (λ t. clash n (eqb→eq n 0 t) (ltb→lt 0 n p))
  where
    clash : (k : ℕ) → k ≡ 0 → 0 < k → ⊥
    clash k a b = omega arith

    go : (b : Bool) → (T b → ⊥)
        → cond b (cond (eqb m 0) nan (inf (unlike s false))) (round f (unlike s false) (m * up e * down d) (n * up d * down e))
        ≡ round f (unlike s false) (m * up e * down d) (n * up d * down e)
    go true h = absurd (h tt)
    go false h = refl

div_rounds : (f : Format) (x y : Float) → T (finite x) → T (positive y) → Rounds f (div f x y) (plus x * den y) (minus x * den y) (num y * den x)
div_rounds f nan y p q = absurd p
div_rounds f (inf s) y p q = absurd p
div_rounds f (fin false m e) y p q = over (omega arith) (div_is f false m e y q ∙ ap (λ (n : ℕ). round f false n (num y * down e)) (omega arith))
div_rounds f (fin true m e) y p q = short (omega arith) (div_is f true m e y q ∙ ap (λ (n : ℕ). round f true n (num y * down e)) (omega arith))

pub num_pos : (y : Float) → T (positive y) → 0 < num y
num_pos nan p = absurd p
num_pos (inf s) p = absurd p
num_pos (fin true m e) p = absurd p
num_pos (fin false m e) p = mul-pos (ltb→lt 0 m p) (up_pos e)

scaled : (p n d p' n' d' c y : ℕ) → p * d' + n' * d ≤ p' * d + n * d' → p * c * (y * d') + n' * c * (y * d) ≤ p' * c * (y * d) + n * c * (y * d')
scaled p n d p' n' d' c y h = omega (arith, mul-le-mul_right (c * y) h)

pub div_mono : (f : Format) (x x' y : Float) → T (finite x) → T (finite x') → T (positive y) → T (le x x') → T (le (div f x y) (div f x' y))
div_mono f x x' y p p' q h =
    rounds_mono f (plus x * den y) (minus x * den y) (num y * den x) (plus x' * den y) (minus x' * den y) (num y * den x') (mul-pos (num_pos y q) (den_pos x)) (mul-pos (num_pos y q) (den_pos x'))
    (scaled (plus x) (minus x) (den x) (plus x') (minus x') (den x') (den y) (num y) (le→cross x x' p p' h)) (div f x y) (div f x' y) (div_rounds f x y p q) (div_rounds f x' y p' q)
