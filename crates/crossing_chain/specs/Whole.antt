-- Document 02, 7: "a sample beyond 2^29 or, in the program's input, not a whole number". A float as a whole number. Definitions only.
use Rattle.std.specs.Prelude.{ℕ, ◌*◌, ◌/◌, ◌%◌, Bool, cond, ◌&&◌, map, ℤ, pos, neg_ℤ, ◌==◌, nat_le, Float}
use Rattle.std.specs.Float.{nan, inf, fin}
use Rattle.std.specs.Float.Ieee.{up, down}
use Rattle.grid.specs.Domain.{Lines}
use Rattle.samples.specs.Samples.{Samples, samples}

-- m * 2 ^ e is a whole number of magnitude at most 2^29
unfoldable pub is_whole : ℕ → ℤ → Bool
is_whole m e = m * up e % down e == 0 && nat_le (m * up e / down e) 536870912

-- the whole number that a float is, where its magnitude is at most 2^29; 2^29 + 1, which is no sample, for every other float
unfoldable pub whole_of : Float → ℤ
whole_of nan = pos 536870913
whole_of (inf s) = pos 536870913
whole_of (fin s m e) = cond (is_whole m e) (cond s (neg_ℤ (pos (m * up e / down e))) (pos (m * up e / down e))) (pos 536870913)

-- lines, each coordinate as a whole number
unfoldable pub whole_lines : Lines → Samples
whole_lines ls = samples (map whole_of ls.start_x) (map whole_of ls.start_y) (map whole_of ls.end_x) (map whole_of ls.end_y)
