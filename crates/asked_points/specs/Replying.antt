-- The words of an answer that an exported function gives by its number and `out` alone. Definitions only.
use Rattle.std.specs.Prelude.{ℕ, List, ◌∷◌, ◌++◌, length, drop, replicate}
use Rattle.replies.specs.Replies.{Reply}

-- the number, and the n words of `out`, which held zeros: the values at its start
unfoldable pub reply_words : ℕ → Reply → List ℕ
reply_words n a = a.number ∷ (a.values ++ drop (length a.values) (replicate {A = ℕ} n 0))
