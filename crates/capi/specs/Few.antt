-- What is answered where the words are too few to say a grid. Definitions only.
use Rattle.std.specs.Prelude.{ℕ, cond, List, [], leb, length}
use Rattle.grid.specs.Words.{grid_words}
use Rattle.replies.specs.Replies.{Reply}

-- the answer a, which goes by the grid that words say; where they are too few to say one, the number 101 and no value
unfoldable pub unless_few : List ℕ → Reply → Reply
unless_few words a = cond (leb grid_words (length words)) a (record { number = 101; values = [] })
