-- Document 01's number and values for each case of each entry's answer. Definitions only.
use Rattle.std.specs.Prelude.{Ok, Err, Result, ℕ, [], ◌∷◌}
use Rattle.refusals.specs.declared.Refusal.{Refusal}
use Rattle.cost.specs.declared.Cost.{Cost}
use Rattle.replies.specs.Replies.{Reply, success, refusing}

-- the cost: the tests, and the lines of the longest list
unfoldable pub of_cost : Result Cost Refusal → Reply
of_cost (Ok c) = success (c.tests ∷ c.longest ∷ [])
of_cost (Err r) = refusing r

-- lists by line: how many cells they have in all; the lists are in their slices
unfoldable pub of_by_line : Result ℕ Refusal → Reply
of_by_line (Ok n) = success (n ∷ [])
of_by_line (Err r) = refusing r

-- each pair once: how many pairs there are; the pairs are in their slices
unfoldable pub of_once : Result ℕ Refusal → Reply
of_once (Ok n) = success (n ∷ [])
of_once (Err r) = refusing r
