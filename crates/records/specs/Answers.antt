-- Words of an answer, written as far as there is room for them. Definitions only.
use Rattle.std.specs.Prelude.{ℕ, zero, suc, ◌+◌, ◌-◌, ◌^◌, min, ◌≡◌, List, [], ◌∷◌, length}
use Rattle.std.proofs.lemmas.List.Edits.{sets}

-- The words ws are written to a from a place on, as far as there is room, and no other; r is how many there are by then, those that have no room too,
-- or 2^64 - 1 where there are more.
pub record PutWords (at : ℕ) (ws a : List ℕ) (r : ℕ) (a' : List ℕ) : Type 0 where
  pub count : r ≡ min (at + length ws) (2 ^ 64 - 1)
  pub words : a' ≡ sets a at ws

-- x in front of xs; nothing where that is a zero alone
unfoldable pub unless_zero : ℕ → List ℕ → List ℕ
unless_zero zero [] = []
unless_zero (suc x) [] = suc x ∷ []
unless_zero x (y ∷ ys) = x ∷ y ∷ ys

-- the entries up to the last that is not zero
unfoldable pub listed_of : List ℕ → List ℕ
listed_of [] = []
listed_of (x ∷ xs) = unless_zero x (listed_of xs)

-- the words of a slice that was lent: how many entries it lists, and those
unfoldable pub lent_words : List ℕ → List ℕ
lent_words s = length (listed_of s) ∷ listed_of s
