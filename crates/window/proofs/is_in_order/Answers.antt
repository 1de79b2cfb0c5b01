-- `window::is_in_order` meets its contract. Assumes nothing.
use mathlib.Core.Path.{refl}
use Rattle.window.specs.Window.{in_order}
use Rattle.window.proofs.is_in_order.Goals as goal

pub returns : goal.returns
unfolding in_order
returns c = refl
