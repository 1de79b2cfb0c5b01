-- What the private functions of `replies` promise. Definitions only.
use Rattle.std.specs.Prelude.{ℕ, ◌≡◌, List, ◌++◌, length, drop}
use Rattle.replies.specs.Replies.{Reply}

-- the number r is returned, the values stand at the start of `out`, and the rest of it is as it was
pub record Handed (a : Reply) (out : List ℕ) (r : ℕ) (out' : List ℕ) : Type 0 where
  pub number : r ≡ a.number
  pub words : out' ≡ a.values ++ drop (length a.values) out
