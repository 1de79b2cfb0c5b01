-- Sums, differences and a change of sign of floats whose values are known, over any format. Assumes nothing.
use Rattle.std.proofs.Common.{◌≡◌, ℕ, ◌+◌, ◌-◌, ◌*◌, ◌<◌, ◌≤◌, Bool, true, false, cond, not, T, ltb, pos, sym, refl, ap, ◌∙◌, true≢false, mul_assoc, mul_comm, add-mul, mul-pos, one-mul, not-le_of_lt, mul_left_comm, ltb→lt}
use native.Mathlib.Nat.{mul-sub}
use lib.Ieee.{Float, nan, inf, fin, Format, up, down, round, neg, add, sub, mul}
use lib.Ieee.Exact.{HasValue}
use lib.Ieee.Fits.{down_pos}
use lib.Ieee.Order.{transfer}
use lib.Ieee.Scale.{round_same}

-- x / e = a / c and y / g = b / d, so their sum is (a * d + b * c) / (c * d)
cross : (x e a c g d : ℕ) → x * c ≡ a * e → x * g * (c * d) ≡ a * d * (e * g)
cross x e a c g d h = simp (mul_assoc, mul_comm, mul_left_comm) (simp (mul_assoc, mul_comm, mul_left_comm) at (ap (λ (z : ℕ). z * (g * d)) h))

cross_sum : (x e a c y g b d : ℕ) → x * c ≡ a * e → y * d ≡ b * g → (x * g + y * e) * (c * d) ≡ (a * d + b * c) * (e * g)
cross_sum x e a c y g b d h k =
    add-mul (x * g) (y * e) (c * d)
    ∙ ap (λ (z : ℕ). z + y * e * (c * d)) (cross x e a c g d h)
    ∙ ap (λ (z : ℕ). a * d * (e * g) + z) (ap (λ (z : ℕ). y * e * z) (mul_comm c d) ∙ cross y g b d e c k ∙ ap (λ (z : ℕ). b * c * z) (mul_comm g e))
    ∙ sym (add-mul (a * d) (b * c) (e * g))

pub sum_at_lem : (f : Format) (s : Bool) (x y : Float) (a c b d : ℕ) → 0 < c → 0 < d → HasValue x s a c → HasValue y s b d → add f x y ≡ round f s (a * d + b * c) (c * d)
unfolding add
sum_at_lem f s nan y a c b d C D h k = absurd h
sum_at_lem f s (inf t) y a c b d C D h k = absurd h
sum_at_lem f s (fin t m e) nan a c b d C D h k = absurd k
sum_at_lem f s (fin t m e) (inf u) a c b d C D h k = absurd k
sum_at_lem f true (fin true m e) (fin true n g) a c b d C D h k = round_same f true (m * up e * down g + n * up g * down e) (down e * down g) (a * d + b * c) (c * d) (mul-pos (down_pos e) (down_pos g)) (mul-pos C D) (cross_sum (m * up e) (down e) a c (n * up g) (down g) b d h.1 k.1)
sum_at_lem f false (fin false m e) (fin false n g) a c b d C D h k = round_same f false (m * up e * down g + n * up g * down e) (down e * down g) (a * d + b * c) (c * d) (mul-pos (down_pos e) (down_pos g)) (mul-pos C D) (cross_sum (m * up e) (down e) a c (n * up g) (down g) b d h.1 k.1)
sum_at_lem f true (fin false m e) (fin u n g) a c b d C D h k = absurd (true≢false (sym h.0))
sum_at_lem f false (fin true m e) (fin u n g) a c b d C D h k = absurd (true≢false h.0)
sum_at_lem f true (fin true m e) (fin false n g) a c b d C D h k = absurd (true≢false (sym k.0))
sum_at_lem f false (fin false m e) (fin true n g) a c b d C D h k = absurd (true≢false k.0)

-- the larger less the smaller
pub sub_mul : (a b k : ℕ) → (a - b) * k ≡ a * k - b * k
sub_mul a b k = mul_comm (a - b) k ∙ mul-sub k a b ∙ ap (λ (z : ℕ). z - k * b) (mul_comm k a) ∙ ap (λ (z : ℕ). a * k - z) (mul_comm k b)

less : (x e a c y g b d : ℕ) → x * c ≡ a * e → y * d ≡ b * g → (x * g - y * e) * (c * d) ≡ (a * d - b * c) * (e * g)
less x e a c y g b d h k =
    sub_mul (x * g) (y * e) (c * d)
    ∙ ap (λ (z : ℕ). z - y * e * (c * d)) (cross x e a c g d h)
    ∙ ap (λ (z : ℕ). a * d * (e * g) - z) (ap (λ (z : ℕ). y * e * z) (mul_comm c d) ∙ cross y g b d e c k ∙ ap (λ (z : ℕ). b * c * z) (mul_comm g e))
    ∙ sym (sub_mul (a * d) (b * c) (e * g))

larger : (f : Format) (x y z : ℕ) → y ≤ x → cond (ltb x y) (round f true (y - x) z) (round f false (x - y) z) ≡ round f false (x - y) z
larger f x y z h = go (ltb x y) (λ (t : T (ltb x y)). not-le_of_lt (ltb→lt x y t) h)
  where
    go : (b : Bool) → (T b → ⊥) → cond b (round f true (y - x) z) (round f false (x - y) z) ≡ round f false (x - y) z
    go true n = absurd (n tt)
    go false n = refl

pub difference_at : (f : Format) (x y : Float) (a c b d : ℕ) → 0 < c → 0 < d → HasValue x false a c → HasValue y false b d → b * c ≤ a * d → sub f x y ≡ round f false (a * d - b * c) (c * d)
unfolding sub
difference_at f nan y a c b d C D h k l = absurd h
difference_at f (inf t) y a c b d C D h k l = absurd h
difference_at f (fin true m e) y a c b d C D h k l = absurd (true≢false h.0)
difference_at f (fin false m e) nan a c b d C D h k l = absurd k
difference_at f (fin false m e) (inf u) a c b d C D h k l = absurd k
difference_at f (fin false m e) (fin true n g) a c b d C D h k l = absurd (true≢false k.0)
difference_at f (fin false m e) (fin false n g) a c b d C D h k l =
    larger f (m * up e * down g) (n * up g * down e) (down e * down g) (transfer (n * up g) (m * up e) (down g) (down e) b a d c D C k.1 h.1 l)
    ∙ round_same f false (m * up e * down g - n * up g * down e) (down e * down g) (a * d - b * c) (c * d) (mul-pos (down_pos e) (down_pos g)) (mul-pos C D) (less (m * up e) (down e) a c (n * up g) (down g) b d h.1 k.1)

-- the opposite of a value, and a value below zero made lower
pub neg_value : (y : Float) (s : Bool) (b d : ℕ) → HasValue y s b d → HasValue (neg y) (not s) b d
unfolding neg
neg_value nan s b d h = h
neg_value (inf t) s b d h = h
neg_value (fin t m e) s b d h = (ap not h.0, h.1)

pub lower_at : (f : Format) (x y : Float) (a c b d : ℕ) → 0 < c → 0 < d → HasValue x true a c → HasValue y false b d → sub f x y ≡ round f true (a * d + b * c) (c * d)
unfolding sub
lower_at f x y a c b d C D h k = sum_at_lem f true x (neg y) a c b d C D h (neg_value y false b d k)

-- 1 or -1 times a value that is not below zero
pub unit_at : (f : Format) (s : Bool) (x : Float) (a c : ℕ) → 0 < c → HasValue x false a c → mul f (fin s 1 (pos 0)) x ≡ round f s a c
unfolding mul
unit_at f s nan a c C h = absurd h
unit_at f s (inf t) a c C h = absurd h
unit_at f s (fin true m e) a c C h = absurd (true≢false h.0)
unit_at f true (fin false m e) a c C h = round_same f true (1 * 1 * (m * up e)) (1 * down e) a c (rw one-mul (down_pos e)) C (rw (one-mul, one-mul) h.1)
unit_at f false (fin false m e) a c C h = round_same f false (1 * 1 * (m * up e)) (1 * down e) a c (rw one-mul (down_pos e)) C (rw (one-mul, one-mul) h.1)
