-- The words of an answer by its kind, and a number by its function, where none of those asked for is left. Assumes nothing.
use Prim.Native.Nat.{ℕ}
use mathlib.Core.Path.{◌≡◌}
use mathlib.Core.Logic.{◌≢◌}
use mathlib.Core.List.{List, []}
use lib.Ieee.{Float, binary64, to_bits}
use borrow.Author.Tests.{ne_eqb}
use Rattle.numbers.specs.Root.{root}
use Rattle.asked_points.specs.Asked.{number_by, words_for}

pub words_none : (k : ℕ) (q : List ℕ) → k ≢ 1 → k ≢ 6 → k ≢ 7 → k ≢ 8 → k ≢ 9 → k ≢ 10 → [] ≡ words_for k q
unfolding words_for
words_none k q a b c d e f = rw (ne_eqb k 1 a, ne_eqb k 6 b, ne_eqb k 7 c, ne_eqb k 8 d, ne_eqb k 9 e, ne_eqb k 10 f)

pub number_last : (f : ℕ) (v : Float) (w : ℕ) → f ≢ 1 → f ≢ 2 → f ≢ 3 → f ≢ 4 → f ≢ 5 → f ≢ 6 → f ≢ 7 → to_bits binary64 (root v) ≡ number_by f v w
unfolding number_by
number_last f v w a b c d e g h = rw (ne_eqb f 1 a, ne_eqb f 2 b, ne_eqb f 3 c, ne_eqb f 4 d, ne_eqb f 5 e, ne_eqb f 6 g, ne_eqb f 7 h)
