-- `counts::agreed::agreed_grid` meets its contract. Assumes nothing.
use Rattle.refusals.proofs.Answers.{at_exit}
use mathlib.Core.Path.{◌≡◌, refl, sym, ◌∙◌}
use Prim.Native.Nat.{ℕ, zero, suc}
use Rattle.sizing.specs.declared.Sizing.{Sizing}
use Rattle.sizing.specs.declared.Extent.{Extent}
use Rattle.sizing.specs.Size.{first_size}
use Rattle.sizing.specs.Counts.{grid_of, empty_grid}
use Rattle.counts.specs.Agreed.{agreed_on}
use Rattle.counts.proofs.Entries.{agreed_refused, agreed_on_lem}
use Rattle.counts.proofs.agreed.agreed_grid.Goals as goal

none : (z : Sizing) (e : Extent) (n : ℕ) → n ≡ 0 → empty_grid ≡ agreed_on z e n
unfolding agreed_on
none z e n h = rw h

some : (z : Sizing) (e : Extent) (n : ℕ) → (n ≡ 0 → ⊥) → grid_of e (first_size z e n) ≡ agreed_on z e n
unfolding agreed_on
some z e zero h = absurd (h refl)
some z e (suc n) h = refl

pub returns-in_err-check_segment : goal.returns-in_err-check_segment
returns-in_err-check_segment c = at_exit c.from_residual.ensures.1 (agreed_refused _ _ _ _ (sym c.in_err-check_segment.ensures))

pub returns-then-lines-eq0 : goal.returns-then-lines-eq0
returns-then-lines-eq0 c = agreed_on_lem _ _ _ _ (sym c.in_ok-check_segment.ensures) (c.empty_grid.ensures ∙ none _ _ _ c.if-lines-eq0.true)

pub returns : goal.returns
returns c =
    agreed_on_lem _ _ _ _ (sym c.in_ok-check_segment.ensures)
    (rw (c.grid_of.ensures, c.first_size-size.ensures, c.bounds_of-extent.ensures) (some _ _ _ c.if-lines-eq0.false))
