-- The decimal constants of document 01, each rounded once, as the values that they are. Assumes nothing.
use Rattle.std.proofs.Common.{◌≡◌, ◌-◌, ◌*◌, ◌^◌, true, false, pos, negsuc, refl}
use lib.Ieee.{Float, fin, binary64, round, neg}

abbrev pub nought : Float
nought = fin false 0 (pos 0)

abbrev pub 1e-9 : Float
1e-9 = fin false 4835703278458517 (negsuc 81)

pub 1e-9_is : round binary64 false 1 1000000000 ≡ 1e-9
unfolding round
1e-9_is = refl

abbrev pub 1e-6 : Float
1e-6 = fin false 4722366482869645 (negsuc 71)

pub 1e-6_is : round binary64 false 1 1000000 ≡ 1e-6
unfolding round
1e-6_is = refl

-- a quarter of 1e-6
abbrev pub quarter : Float
quarter = fin false 4722366482869645 (negsuc 73)

pub quarter_is : round binary64 false 1 4000000 ≡ quarter
unfolding round
quarter_is = refl

abbrev pub two : Float
two = fin false 1 (pos 1)

pub two_is : round binary64 false 2 1 ≡ two
unfolding round
two_is = refl

abbrev pub thousand : Float
thousand = fin false 125 (pos 3)

pub thousand_is : round binary64 false 1000 1 ≡ thousand
unfolding round
thousand_is = refl

abbrev pub 1e9 : Float
1e9 = fin false 1953125 (pos 9)

pub 1e9_is : round binary64 false 1000000000 1 ≡ 1e9
unfolding round
1e9_is = refl

abbrev pub 2e9 : Float
2e9 = fin false 1953125 (pos 10)

pub 2e9_is : round binary64 false 2000000000 1 ≡ 2e9
unfolding round
2e9_is = refl

-- the largest finite value, and its negative
abbrev pub top : Float
top = fin false 9007199254740991 (pos 971)

pub top_is : round binary64 false ((2 ^ 53 - 1) * 2 ^ 971) 1 ≡ top
unfolding round
top_is = refl

pub bottom_is : round binary64 true ((2 ^ 53 - 1) * 2 ^ 971) 1 ≡ neg top
unfolding round neg
bottom_is = refl
