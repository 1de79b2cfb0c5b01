-- What the private functions ask of a row, beside what a scan asks. Definitions only.
use Rattle.std.specs.Prelude.{ℕ, ◌≤◌, ◌≡◌}
use Rattle.samples.specs.Samples.{Samples, raised_at}
use Rattle.crossings.specs.declared.rows.Row.{Row}

-- a line, raised, and how sure the marks are that it goes by
abbrev pub row_of : Samples → ℕ → ℕ → Row
row_of ss a sure = record { first = a; sure = sure; line = raised_at ss a }

-- a row holds its line, beside what is asked of it
pub record RaisedHeld (ss : Samples) (row : Row) (A : Type 0) : Type 0 where
  pub held : row.line ≡ raised_at ss row.first
  pub most : row.sure ≤ 1
  pub asks : A
