-- Document 01's number and values for each case of each entry's answer. Definitions only.
use Rattle.std.specs.Prelude.{Ok, Err, Result, ℕ, [], ◌∷◌}
use Rattle.refusals.specs.declared.Refusal.{Refusal}
use Rattle.wkb.specs.declared.MultiRead.{MultiRead}
use Rattle.replies.specs.Replies.{Reply, success, refusing}

-- the reader: the number of points and that of members; the points are in x and y, and each member's number of points in the lengths
unfoldable pub of_multi_read : Result MultiRead Refusal → Reply
of_multi_read (Ok m) = success (m.points ∷ m.members ∷ [])
of_multi_read (Err r) = refusing r

-- the writer: the number of bytes; the bytes are in their slice
unfoldable pub of_written : Result ℕ Refusal → Reply
of_written (Ok n) = success (n ∷ [])
of_written (Err r) = refusing r

-- the lines of members: their number; they are in the four coordinate slices
unfoldable pub of_lined : Result ℕ Refusal → Reply
of_lined (Ok n) = success (n ∷ [])
of_lined (Err r) = refusing r
