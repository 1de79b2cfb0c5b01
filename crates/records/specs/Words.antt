-- Words of 64 bits: those that stand in bytes, and how far two rows of them are the same. Definitions only.
use Rattle.std.specs.Prelude.{ℕ, zero, suc, ◌+◌, ◌*◌, cond, List, [], ◌∷◌, eqb, get_or}

-- the number in k bytes from a place on, the least significant first
unfoldable pub little_at : ℕ → ℕ → List ℕ → ℕ
little_at zero at bytes = 0
little_at (suc k) at bytes = get_or bytes at 0 + 256 * little_at k (suc at) bytes

-- n words of eight bytes
unfoldable pub words_from : ℕ → ℕ → List ℕ → List ℕ
words_from zero at bytes = []
words_from (suc n) at bytes = little_at 8 at bytes ∷ words_from n (at + 8) bytes

unfoldable pub words_of : ℕ → List ℕ → List ℕ
words_of n bytes = words_from n 0 bytes

-- how many words, from the first on, are the same in both
unfoldable pub same_to : List ℕ → List ℕ → ℕ
same_to [] b = 0
same_to (x ∷ a) [] = 0
same_to (x ∷ a) (y ∷ b) = cond (eqb x y) (suc (same_to a b)) 0
