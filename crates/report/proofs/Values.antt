-- The digits of a number are its own: read back they give it, and a decimal number has no zero in front. Assumes nothing.
use mathlib.Core.Path.{◌≡◌, refl, sym, ap, ◌∙◌}
use mathlib.Core.Bool.{cond}
use mathlib.Core.List.{List, [], ◌∷◌, ◌++◌}
use mathlib.Core.Logic.{◌⊎◌, inl, inr, ⊎_elim}
use Prim.Native.Nat.{ℕ, zero, suc, ◌+◌, ◌-◌, ◌*◌, ◌/◌, ◌%◌, ◌^◌, ◌≤◌, ◌<◌}
use native.Mathlib.Omega.{arith}
use native.Mathlib.Nat.{pow-suc}
use native.Mathlib.Decide.{dec_le}
use borrow.Author.Tests.{lt-ltb, le-ltb}
use lib.Dec.{ltb}
use lib.ListN.{length, get_or, get_or-append, length-append}
use Rattle.report.specs.Numbers.{glyph, leading, in_decimal, hex}
use Rattle.report.proofs.Digits.{leading_none, leading_more}

-- the digit that a byte stands for
digit : ℕ → ℕ
digit g = cond (ltb g 58) (g - 48) (g - 87)

-- bytes read as digits in a base, from a number read so far
read_from : ℕ → ℕ → List ℕ → ℕ
read_from b so [] = so
read_from b so (g ∷ gs) = read_from b (so * b + digit g) gs

pub read : ℕ → List ℕ → ℕ
read b gs = read_from b 0 gs

lo_or_hi : (d : ℕ) → (d < 10) ⊎ (10 ≤ d)
lo_or_hi d = elim (dec_le 10 d) [ yes h ↦ inr h | no h ↦ inl (omega arith) ]

digit_glyph : (d : ℕ) → d < 16 → digit (glyph d) ≡ d
unfolding digit glyph
digit_glyph d h =
    ⊎_elim
    (λ (l : d < 10). rw (lt-ltb d 10 l, lt-ltb (48 + d) 58 (omega arith)) (omega arith))
    (λ (l : 10 ≤ d). rw (le-ltb d 10 l, le-ltb (87 + d) 58 (omega arith)) (omega arith))
    (lo_or_hi d)

read_last : (b so : ℕ) (gs : List ℕ) (g : ℕ) → read_from b so (gs ++ (g ∷ [])) ≡ read_from b so gs * b + digit g
unfolding read_from
read_last b so [] g = refl
read_last b so (x ∷ gs) g = read_last b (so * b + digit x) gs g

leading_value : (k n : ℕ) → n < 10 ^ k → read_from 10 0 (leading k n) ≡ n
unfolding read_from leading
leading_value zero n h = let s : n < 10 ^ 0 = h in omega arith
leading_value (suc k) zero h = ap (read_from 10 0) (leading_none (suc k))
leading_value (suc k) (suc m) h =
    let p = pow-suc 10 k in
    let v = leading_value k (suc m / 10) (omega arith) in
    ap (read_from 10 0) (leading_more k (suc m) (omega arith))
    ∙ read_last 10 0 (leading k (suc m / 10)) (glyph (suc m % 10))
    ∙ rw (v, digit_glyph (suc m % 10) (omega arith)) (omega arith)

-- the first byte of the leading digits of a number is not `0`, and there is one
record Headed (gs : List ℕ) : Type 0 where
  some : 0 < length gs
  head : get_or gs 0 0 ≡ 48 → ⊥

headed_last : (gs : List ℕ) (n : ℕ) → gs ≡ [] → 0 < n → n < 10 → Headed (gs ++ (glyph (n % 10) ∷ []))
unfolding glyph
headed_last gs n e l s =
    let d : n % 10 ≡ n = omega arith in
    rw (e, d, lt-ltb n 10 s) (record { some = omega arith; head = λ e. omega arith })

headed_front : (gs : List ℕ) (g : ℕ) → Headed gs → Headed (gs ++ (g ∷ []))
headed_front gs g f =
    let s = f.some in
    record { some = simp length-append (omega arith); head = λ e. f.head (sym (get_or-append gs (g ∷ []) 0 0 s) ∙ e) }

leading_headed : (k n : ℕ) → 0 < n → n < 10 ^ k → Headed (leading k n)
leading_headed zero n l h = absurd (let s : n < 10 ^ 0 = h in omega arith)
leading_headed (suc k) n l h =
    let p = pow-suc 10 k in
    rw (leading_more k n l)
    (⊎_elim
    (λ (s : n < 10). headed_last (leading k (n / 10)) n (let z : n / 10 ≡ 0 = omega arith in rw z (leading_none k)) l s)
    (λ (s : 10 ≤ n). headed_front (leading k (n / 10)) (glyph (n % 10)) (leading_headed k (n / 10) (omega arith) (omega arith)))
    (lo_or_hi n))

-- a decimal number, read back
pub decimal_value : (n : ℕ) → n < 10 ^ 20 → read 10 (in_decimal n) ≡ n
unfolding read in_decimal
decimal_value n h =
    let v : read_from 10 0 (leading 19 (n / 10)) ≡ n / 10 = leading_value 19 (n / 10) (omega arith) in
    read_last 10 0 (leading 19 (n / 10)) (glyph (n % 10)) ∙ rw (v, digit_glyph (n % 10) (omega arith)) (omega arith)

-- a decimal number of two digits or more does not begin with `0`
pub decimal_short : (n : ℕ) → n < 10 ^ 20 → 10 ≤ n → get_or (in_decimal n) 0 0 ≡ 48 → ⊥
unfolding in_decimal
decimal_short n h l e =
    let f = leading_headed 19 (n / 10) (omega arith) (omega arith) in
    f.head (sym (get_or-append (leading 19 (n / 10)) (glyph (n % 10) ∷ []) 0 0 f.some) ∙ e)

-- k hexadecimal digits, read back
pub hex_value : (k n : ℕ) → n < 16 ^ k → read 16 (hex k n) ≡ n
unfolding read hex read_from
hex_value zero n h = let s : n < 16 ^ 0 = h in omega arith
hex_value (suc k) n h =
    let p = pow-suc 16 k in
    let v : read_from 16 0 (hex k (n / 16)) ≡ n / 16 = hex_value k (n / 16) (omega arith) in
    read_last 16 0 (hex k (n / 16)) (glyph (n % 16)) ∙ rw (v, digit_glyph (n % 16) (omega arith)) (omega arith)
