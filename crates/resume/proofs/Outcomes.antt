-- The promise of `next` settles its answer and both outputs. Assumes nothing.
use Rattle.std.specs.Prelude.{Result}
use Rattle.refusals.specs.declared.Refusal.{Refusal}
use Rattle.resume.specs.declared.Went.{Went}
use mathlib.Core.Path.{◌≡◌, sym, ◌∙◌}
use mathlib.Core.List.{List}
use Prim.Native.Nat.{ℕ}
use Rattle.grid.specs.Domain.{Lines}
use Rattle.tables.specs.Tables.{Tables}
use Rattle.resume.specs.declared.Cursor.{Cursor}
use Rattle.resume.specs.Answers.{NextIs}

pub one_outcome : (ls : Lines) (t : Tables) (c : Cursor) (first second first₁ second₁ first₂ second₂ : List ℕ) (r₁ r₂ : (Result Went Refusal))
    → NextIs ls t c first second first₁ second₁ r₁ → NextIs ls t c first second first₂ second₂ r₂ → (r₁ ≡ r₂) × ((first₁ ≡ first₂) × (second₁ ≡ second₂))
one_outcome ls t c first second first₁ second₁ first₂ second₂ r₁ r₂ a b =
    (a.answers ∙ sym b.answers, (a.first_is ∙ sym b.first_is, a.second_is ∙ sym b.second_is))
