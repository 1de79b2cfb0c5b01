-- `window::check_window` meets its contract. Assumes nothing.
use mathlib.Core.Bool.{Bool}
use mathlib.Core.Path.{ap, ◌∙◌}
use Rattle.refusals.specs.Refusals.{unless}
use Rattle.window.specs.Window.{window_check}
use Rattle.window.proofs.check_window.Goals as goal

pub returns : goal.returns
unfolding window_check
returns c = c.refuse_unless.ensures ∙ ap (λ (b : Bool). unless b 1 0) c.is_window.ensures
