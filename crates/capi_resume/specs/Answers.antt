-- Document 01's number and values for each case of the two answers. Definitions only.
use Rattle.std.specs.Prelude.{Ok, Err, Result, [], ◌∷◌}
use Rattle.refusals.specs.declared.Refusal.{Refusal}
use Rattle.resume.specs.declared.Went.{Went}
use Rattle.resume.specs.declared.Cursor.{Cursor}
use Rattle.replies.specs.Replies.{Reply, success, refusing}

-- the start: the words of its cursor
unfoldable pub of_start : Result Cursor Refusal → Reply
of_start (Ok c) = success (c.place ∷ c.i ∷ c.j ∷ [])
of_start (Err r) = refusing r

-- onward: the tests made, the overlaps among them, and the words of the cursor; the pairs are in their slices
unfoldable pub of_next : Result Went Refusal → Reply
of_next (Ok w) = success (w.tests ∷ w.overlaps ∷ w.cursor.place ∷ w.cursor.i ∷ w.cursor.j ∷ [])
of_next (Err r) = refusing r
