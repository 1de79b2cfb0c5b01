-- The checks 2, 8 and 10 of standing tables, case by case, and what tables say that pass them. Assumes nothing.
use Rattle.std.specs.Prelude.{Ok, Err}
use Rattle.refusals.specs.Refusals.{Check}
use mathlib.Core.Path.{◌≡◌, sym, ap, ◌∙◌}
use mathlib.Core.Bool.{Bool}
use Rattle.refusals.specs.declared.Refusal.{Refusal}
use Rattle.refusals.specs.Refusals.{unless}
use Rattle.refusals.proofs.Checks.{unless_fine, and_then_refused, and_then_fine, and_then_left, and_then_right}
use Rattle.grid.specs.declared.Grid.{Grid}
use Rattle.grid.specs.Domain.{count_check, grid_check, fit}
use Rattle.grid.proofs.Shapes.{Fit, fit_says}
use Rattle.tables.specs.Tables.{Tables}
use Rattle.tables.specs.Fit.{TablesFit, tables_fit, tables_check, standing_check}
use Rattle.tables.proofs.Facts.{check_facts}

-- 10, as the code has it: r is the check of the test b
pub unfit_refused : (t : Tables) {b : Bool} {r : Check} → r ≡ unless b 10 0 → b ≡ tables_fit t → r ≡ tables_check t
unfolding tables_check
unfit_refused t h e = h ∙ ap (λ (b : Bool). unless b 10 0) e

module _ (g : Grid) (t : Tables) where
  pub standing_many : (r : Refusal) → count_check t.lines ≡ Err r → Err r ≡ standing_check g t
  unfolding standing_check
  standing_many r e = sym (and_then_refused _ _ r e)

  module _ (a : count_check t.lines ≡ (Ok tt)) where
    pub standing_grid : (r : Refusal) → grid_check g ≡ Err r → Err r ≡ standing_check g t
    unfolding standing_check
    standing_grid r e = sym (and_then_fine _ _ a ∙ and_then_refused _ _ r e)

    -- the count has passed, so 8 and 10 are left
    pub standing_tables : grid_check g ≡ (Ok tt) → tables_check t ≡ standing_check g t
    unfolding standing_check
    standing_tables e = sym (and_then_fine _ _ a ∙ and_then_fine _ _ e)

-- a check that finds nothing
pub record Standing (g : Grid) (t : Tables) : Type 0 where
  pub grid : Fit g
  pub tables : TablesFit t

pub standing_says : (g : Grid) (t : Tables) → standing_check g t ≡ (Ok tt) → Standing g t
unfolding standing_check grid_check
standing_says g t h =
    let b = and_then_right _ _ h in
    record { grid = fit_says g (unless_fine (fit g) 8 0 (and_then_left _ _ b)); tables = check_facts t (and_then_right _ _ b) }
