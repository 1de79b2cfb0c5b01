-- Float steps in the words of a paper: each of the four operations of IEEE 754 at binary64, rounded once to the nearest, ties to even; and the floats that
-- are nearest to a whole number and to a fraction. They stand for what they name wherever they are used. Definitions only.
use Rattle.std.specs.Prelude.{ℕ, true, false, pos, Float}
use Rattle.std.specs.Float.{binary64}
use Rattle.std.specs.Float.Ieee.{round, of_int, add, sub, mul, div}

infixl 6 ◌+₆₄◌ ◌-₆₄◌
infixl 7 ◌*₆₄◌ ◌/₆₄◌
abbrev pub ◌+₆₄◌ : Float → Float → Float
a +₆₄ b = add binary64 a b

abbrev pub ◌-₆₄◌ : Float → Float → Float
a -₆₄ b = sub binary64 a b

abbrev pub ◌*₆₄◌ : Float → Float → Float
a *₆₄ b = mul binary64 a b

abbrev pub ◌/₆₄◌ : Float → Float → Float
a /₆₄ b = div binary64 a b

-- a whole number
abbrev pub whole_float : ℕ → Float
whole_float n = of_int binary64 (pos n)

-- m / n, as a decimal fraction is written
abbrev pub decimal : ℕ → ℕ → Float
decimal m n = round binary64 false m n

-- -m / n
abbrev pub minus_decimal : ℕ → ℕ → Float
minus_decimal m n = round binary64 true m n
