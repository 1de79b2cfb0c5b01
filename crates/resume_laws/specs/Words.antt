-- The word of the laws that join `next` to a batch. Definitions only.
use Rattle.std.specs.Prelude.{ℕ, drop}
use Rattle.tables.specs.Tables.{Tables}
use Rattle.seek.specs.Tests.{tests_of}
use Rattle.resume.specs.declared.Cursor.{Cursor}
use Rattle.resume.specs.Cursors.{cursor_of}

-- the cursor of a bookmark: that of the tests that are left there
abbrev pub cursor_at : Tables → ℕ → Cursor
cursor_at t b = cursor_of t (drop b (tests_of t))
