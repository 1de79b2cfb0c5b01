-- Document 02's own cases, computed straight from the definitions. Assumes nothing.
use mathlib.Core.Path.{◌≡◌, refl}
use mathlib.Core.List.{List, [], ◌∷◌, flat_map}
use Prim.Native.Nat.{ℕ}
use lib.Ieee.{round, neg, lt, le, eq, is_nan, size, span, climb, units, odd, of_int, of_bits, of_fields}
use lib.Count.{count_trailing_zeros}
use Rattle.numbers.specs.Order.{magnitude_of}
use Rattle.grid.specs.Domain.{coordinate, point}
use Rattle.wkb.specs.Bytes.{Point}
use Rattle.clean.specs.Cleaning.{good, same_point, onto, pieces, thin_after, thin, is_piece, kept_of, cleaned_member, cleaned, kept, range, repeat, short, reasons_after, reasons_by, piece_reasons, between_pieces, member_reasons, reasons}

-- two points, and one that is no number, with a payload
abbrev a : Point
a = record { x = 4607182418800017408; y = 4607182418800017408 }

abbrev b : Point
b = record { x = 4611686018427387904; y = 4607182418800017408 }

abbrev gap : Point
gap = record { x = 9218868437227405313; y = 4607182418800017408 }

-- zeros of either sign, and 1e9 with its neighbour above
abbrev zero : Point
zero = record { x = 0; y = 9223372036854775808 }

abbrev minus : Point
minus = record { x = 9223372036854775808; y = 0 }

abbrev edge : Point
edge = record { x = 4741671816366391296; y = 4607182418800017408 }

abbrev above : Point
above = record { x = 4741671816366391297; y = 4607182418800017408 }

abbrev why : List Point → List ℕ → Type 0
why ps rs = reasons (ps ∷ []) ≡ rs

pub vectors : why (a ∷ a ∷ []) (short ∷ repeat ∷ []) × why (a ∷ a ∷ gap ∷ a ∷ []) (short ∷ repeat ∷ range ∷ short ∷ []) × why (a ∷ gap ∷ a ∷ b ∷ []) (short ∷ range ∷ kept ∷ kept ∷ [])
    × why (a ∷ b ∷ a ∷ []) (kept ∷ kept ∷ kept ∷ []) × why (zero ∷ minus ∷ a ∷ []) (kept ∷ repeat ∷ kept ∷ []) × why (edge ∷ a ∷ above ∷ []) (kept ∷ kept ∷ range ∷ [])
    × (cleaned ((zero ∷ minus ∷ a ∷ gap ∷ b ∷ []) ∷ (b ∷ a ∷ []) ∷ []) ≡ (zero ∷ a ∷ []) ∷ (b ∷ a ∷ []) ∷ [])
unfolding round neg lt le eq is_nan size span climb units odd of_int of_bits of_fields count_trailing_zeros magnitude_of coordinate point good same_point onto pieces thin_after thin is_piece kept_of cleaned_member cleaned reasons_after reasons_by piece_reasons between_pieces member_reasons reasons flat_map
vectors = (refl, refl, refl, refl, refl, refl, refl)
