-- `window::found::put` meets its contract. Assumes nothing.
use mathlib.Core.Path.{sym}
use native.Mathlib.Omega.{arith}
use lib.Seq.{set_out}
use Rattle.window.proofs.found.put.Goals as goal

pub returns-else-n-out : goal.returns-else-n-out
returns-else-n-out c = sym (set_out _ _ _ (omega arith))
