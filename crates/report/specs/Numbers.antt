-- A number in ASCII digits, the most significant first. Definitions only.
use Rattle.std.specs.Prelude.{ℕ, zero, suc, ◌+◌, ◌/◌, ◌%◌, Bool, true, false, cond, List, [], ◌∷◌, ◌++◌, eqb, ltb}

-- the digit d: `0` to `9`, then `a` to `f`
unfoldable pub glyph : ℕ → ℕ
glyph d = cond (ltb d 10) (48 + d) (87 + d)

unfoldable pub blank_if : Bool → List ℕ → List ℕ
blank_if true xs = []
blank_if false xs = xs

-- the decimal digits of a number below 10 ^ k, with no zero in front: 0 has none
unfoldable pub leading : ℕ → ℕ → List ℕ
leading zero n = []
leading (suc k) n = blank_if (eqb n 0) (leading k (n / 10) ++ (glyph (n % 10) ∷ []))

-- a number below 10 ^ 20 in decimal: its last digit, and in front of it the others, with no zero in front (`decimal_value`, `decimal_short`)
unfoldable pub in_decimal : ℕ → List ℕ
in_decimal n = leading 19 (n / 10) ++ (glyph (n % 10) ∷ [])

-- the last k hexadecimal digits of a number (`hex_value`)
unfoldable pub hex : ℕ → ℕ → List ℕ
hex zero n = []
hex (suc k) n = hex k (n / 16) ++ (glyph (n % 16) ∷ [])
